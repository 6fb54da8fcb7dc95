-- Lines at the edges of the rules, computed: the points that document 01 leaves to a careful reader, one theorem each.
use Rattle.std.specs.Prelude.{◌≡◌, refl, Some, None, [], ◌∷◌, codes}
use Rattle.plan.specs.declared.line.Line.{Line}
use Rattle.plan.specs.Lines.{line_of, rules}
use Rattle.plan.specs.LinePadded.{leading, allowed, padded}

-- ---- The four letters; the least and the largest number of a field. A work above its limit is left to refusal 4.
task : line_of (codes "T,3,6,2,6") ≡ Some (Line.Task (record { phase = 3; period = 6; exec = 2; deadline = 6 }))
unfolding rules
task = refl

server : line_of (codes "S,2,0,5,2") ≡ Some (Line.Server (record { kind = 2; place = 0; period = 5; budget = 2 }))
unfolding rules
server = refl

arrival : line_of (codes "A,0,4294967295,60001") ≡ Some (Line.Arrival (record { tick = 0; id = 4_294_967_295; work = 60_001 }))
unfolding rules
arrival = refl

run : line_of (codes "R,8") ≡ Some (Line.Run 8)
unfolding rules
run = refl

-- ---- An R line above its limit is bad.
run-longest : line_of (codes "R,1000000") ≡ Some (Line.Run 1_000_000)
unfolding rules
run-longest = refl

run-over : line_of (codes "R,1000001") ≡ None
unfolding rules
run-over = refl

-- ---- Numbers.
too_large : line_of (codes "T,4294967296,6,2,6") ≡ None
unfolding rules
too_large = refl

eleven_digits : line_of (codes "T,10000000000,6,2,6") ≡ None
unfolding rules
eleven_digits = refl

carriage_return : line_of (codes "T,3,6,2,6\r") ≡ None
unfolding rules
carriage_return = refl

sign : line_of (codes "T,-3,6,2,6") ≡ None
unfolding rules
sign = refl

blank-before : line_of (codes "T, 3,6,2,6") ≡ None
unfolding rules
blank-before = refl

no_number : line_of (codes "T,,6,2,6") ≡ None
unfolding rules
no_number = refl

-- ---- Padded numbers (02, request 4/13): in every line kind, ten digits at most with the zeros, zeros alone too; a limit is one of the value.
two-zeros : line_of (codes "T,00,6,2,6") ≡ Some (Line.Task (record { phase = 0; period = 6; exec = 2; deadline = 6 }))
unfolding rules
two-zeros = refl

ten_zeros : line_of (codes "T,0000000000,6,2,6") ≡ Some (Line.Task (record { phase = 0; period = 6; exec = 2; deadline = 6 }))
unfolding rules
ten_zeros = refl

eleven_zeros : line_of (codes "T,00000000000,6,2,6") ≡ None
unfolding rules
eleven_zeros = refl

padded-task : line_of (codes "T,0000000003,06,002,0006") ≡ Some (Line.Task (record { phase = 3; period = 6; exec = 2; deadline = 6 }))
unfolding rules
padded-task = refl

padded-server : line_of (codes "S,02,0000000000,0000000005,0002") ≡ Some (Line.Server (record { kind = 2; place = 0; period = 5; budget = 2 }))
unfolding rules
padded-server = refl

padded-arrival : line_of (codes "A,0000000000,0000000007,0000060001") ≡ Some (Line.Arrival (record { tick = 0; id = 7; work = 60_001 }))
unfolding rules
padded-arrival = refl

padded-run : line_of (codes "R,0000000008") ≡ Some (Line.Run 8)
unfolding rules
padded-run = refl

padded-longest : line_of (codes "R,0001000000") ≡ Some (Line.Run 1_000_000)
unfolding rules
padded-longest = refl

padded-over : line_of (codes "R,0001000001") ≡ None
unfolding rules
padded-over = refl

padded-to_eleven : line_of (codes "R,00000000008") ≡ None
unfolding rules
padded-to_eleven = refl

largest-padded : line_of (codes "A,0,04294967295,1") ≡ None
unfolding rules
largest-padded = refl

sign-within : line_of (codes "S,0-2,0,5,2") ≡ None
unfolding rules
sign-within = refl

blank-within : line_of (codes "A,3,0 7,4") ≡ None
unfolding rules
blank-within = refl

-- ---- Zeros put behind the commas of a text: behind each as many as it says, unless no digit stands there or ten would not be enough.
-- `T,3,6,2,6` with 9, 0, 1 and 2 zeros: `T,0000000003,6,02,006`
zeros_put : padded (9 ∷ 0 ∷ 1 ∷ 2 ∷ []) (codes "T,3,6,2,6") ≡ codes "T,0000000003,6,02,006"
unfolding rules leading allowed padded
zeros_put = refl

-- `A,3,4294967295,1` with 10 and 1: as it is
zeros_too_many : padded (10 ∷ 1 ∷ []) (codes "A,3,4294967295,1") ≡ codes "A,3,4294967295,1"
unfolding rules leading allowed padded
zeros_too_many = refl

-- `S,,-2,0,0` with 1 and 1: as it is
zeros-before-none : padded (1 ∷ 1 ∷ []) (codes "S,,-2,0,0") ≡ codes "S,,-2,0,0"
unfolding rules leading allowed padded
zeros-before-none = refl

-- ---- Forms.
empty : line_of [] ≡ None
unfolding rules
empty = refl

letter-alone : line_of (codes "R") ≡ None
unfolding rules
letter-alone = refl

field_short : line_of (codes "T,3,6,2") ≡ None
unfolding rules
field_short = refl

field_over : line_of (codes "T,3,6,2,6,1") ≡ None
unfolding rules
field_over = refl

no_letter : line_of (codes ",3,6,2,6") ≡ None
unfolding rules
no_letter = refl

other-letter : line_of (codes "Q,1") ≡ None
unfolding rules
other-letter = refl

small-letter : line_of (codes "r,8") ≡ None
unfolding rules
small-letter = refl

two_letters : line_of (codes "TT,3,6,2,6") ≡ None
unfolding rules
two_letters = refl
