-- Plans at the edges of the rules, computed: the points that document 01 leaves to a careful reader, one theorem each.
use Rattle.std.specs.Prelude.{ℕ, ◌≡◌, refl, List, [], ◌∷◌, replicate, codes}
use Rattle.table.specs.declared.Refusal.{Refusal}
use Rattle.plan.specs.LinePadded.{leading, allowed, padded}
use Rattle.plan.specs.declared.refusal.PlanRefusal.{PlanRefusal}
use Rattle.plan.specs.Plan.{plan_of, refused_plan, accepted_plan, arrivals_from, rules}

-- ---- Nothing, a lone line feed, a last line that is not closed.
empty : plan_of [] ≡ refused_plan PlanRefusal.Misplaced 1
unfolding rules
empty = refl

lone_feed : plan_of (codes "\n") ≡ refused_plan PlanRefusal.BadLine 1
unfolding rules
lone_feed = refl

unclosed : plan_of (codes "R,8") ≡ refused_plan PlanRefusal.BadLine 1
unfolding rules
unclosed = refl

unclosed-last : plan_of (codes "T,3,6,2,6\nS,2,0,5,2\nR,8") ≡ refused_plan PlanRefusal.BadLine 3
unfolding rules
unclosed-last = refl

earlier_wins : plan_of (codes "A,0,0,1\nR,8") ≡ refused_plan PlanRefusal.Misplaced 1
unfolding rules
earlier_wins = refl

-- ---- On one line 8 comes before 9, and 9 before 4, after R too; an R line above its limit is 8.
bad-before-misplaced : plan_of (codes "A,x,1,1\n") ≡ refused_plan PlanRefusal.BadLine 1
unfolding rules
bad-before-misplaced = refl

misplaced-before-work : plan_of (codes "A,0,0,0\n") ≡ refused_plan PlanRefusal.Misplaced 1
unfolding rules
misplaced-before-work = refl

falling-before-work : plan_of (codes "T,3,6,2,6\nS,2,0,5,2\nA,3,7,1\nA,2,7,0\nR,8\n") ≡ refused_plan PlanRefusal.Misplaced 4
unfolding rules
falling-before-work = refl

bad-after-run : plan_of (codes "T,3,6,2,6\nS,2,0,5,2\nR,8\n\n") ≡ refused_plan PlanRefusal.BadLine 4
unfolding rules
bad-after-run = refl

line-after-run : plan_of (codes "T,3,6,2,6\nS,2,0,5,2\nR,8\nR,8\n") ≡ refused_plan PlanRefusal.Misplaced 4
unfolding rules
line-after-run = refl

run-over : plan_of (codes "R,1000001\n") ≡ refused_plan PlanRefusal.BadLine 1
unfolding rules
run-over = refl

run-over-last : plan_of (codes "T,3,6,2,6\nS,2,0,5,2\nR,1000001\n") ≡ refused_plan PlanRefusal.BadLine 3
unfolding rules
run-over-last = refl

-- ---- The order of the letters.
arrival-first : plan_of (codes "A,0,0,1\n") ≡ refused_plan PlanRefusal.Misplaced 1
unfolding rules
arrival-first = refl

run-first : plan_of (codes "R,8\n") ≡ refused_plan PlanRefusal.Misplaced 1
unfolding rules
run-first = refl

task-after-server : plan_of (codes "T,3,6,2,6\nS,2,0,5,2\nT,3,6,2,6\nR,8\n") ≡ refused_plan PlanRefusal.Misplaced 3
unfolding rules
task-after-server = refl

second_server : plan_of (codes "T,3,6,2,6\nS,2,0,5,2\nS,2,0,5,2\nR,8\n") ≡ refused_plan PlanRefusal.Misplaced 3
unfolding rules
second_server = refl

no_run : plan_of (codes "T,3,6,2,6\nS,2,0,5,2\n") ≡ refused_plan PlanRefusal.Misplaced 3
unfolding rules
no_run = refl

no_server : plan_of (codes "T,3,6,2,6\n") ≡ refused_plan PlanRefusal.Misplaced 2
unfolding rules
no_server = refl

falling : plan_of (codes "T,3,6,2,6\nS,2,0,5,2\nA,3,7,1\nA,2,7,1\nR,8\n") ≡ refused_plan PlanRefusal.Misplaced 4
unfolding rules
falling = refl

-- ---- Works, at and past the end too.
work_zero : plan_of (codes "T,3,6,2,6\nS,2,0,5,2\nA,3,7,0\nR,8\n") ≡ refused_plan (PlanRefusal.Call Refusal.BadWork) 3
unfolding rules
work_zero = refl

work-over : plan_of (codes "T,3,6,2,6\nS,2,0,5,2\nA,3,7,60001\nR,8\n") ≡ refused_plan (PlanRefusal.Call Refusal.BadWork) 3
unfolding rules
work-over = refl

work-past-end : plan_of (codes "T,3,6,2,6\nS,2,0,5,2\nA,99,7,0\nR,8\n") ≡ refused_plan (PlanRefusal.Call Refusal.BadWork) 3
unfolding rules
work-past-end = refl

-- ---- Padded numbers: eleven digits are 8 in every line kind; a padded work of 0 is 4.
eleven_in_task : plan_of (codes "T,00000000003,6,2,6\n") ≡ refused_plan PlanRefusal.BadLine 1
unfolding rules
eleven_in_task = refl

eleven_in_server : plan_of (codes "T,3,6,2,6\nS,00000000002,0,5,2\n") ≡ refused_plan PlanRefusal.BadLine 2
unfolding rules
eleven_in_server = refl

eleven_in_arrival : plan_of (codes "T,3,6,2,6\nS,2,0,5,2\nA,3,7,00000000004\n") ≡ refused_plan PlanRefusal.BadLine 3
unfolding rules
eleven_in_arrival = refl

eleven_in_run : plan_of (codes "T,3,6,2,6\nS,2,0,5,2\nR,00000000008\n") ≡ refused_plan PlanRefusal.BadLine 3
unfolding rules
eleven_in_run = refl

padded-work_zero : plan_of (codes "T,3,6,2,6\nS,2,0,5,2\nA,3,7,00\nR,8\n") ≡ refused_plan (PlanRefusal.Call Refusal.BadWork) 3
unfolding rules
padded-work_zero = refl

-- ---- The table, after all lines.
no_task_lem : plan_of (codes "S,0,0,0,0\nR,1\n") ≡ refused_plan (PlanRefusal.Call Refusal.TaskCount) 0
unfolding rules
no_task_lem = refl

seventeen : plan_of (codes "T,0,6,2,6\nT,0,6,2,6\nT,0,6,2,6\nT,0,6,2,6\nT,0,6,2,6\nT,0,6,2,6\nT,0,6,2,6\nT,0,6,2,6\nT,9,0,9,0\nT,0,6,2,6\nT,0,6,2,6\nT,0,6,2,6\nT,0,6,2,6\nT,0,6,2,6\nT,0,6,2,6\nT,0,6,2,6\nT,0,6,2,6\nS,2,0,5,2\nR,8\n") ≡ refused_plan (PlanRefusal.Call Refusal.TaskCount) 0
unfolding rules
seventeen = refl

bad-server : plan_of (codes "T,3,6,2,6\nS,2,2,5,2\nR,8\n") ≡ refused_plan (PlanRefusal.Call Refusal.BadServer) 0
unfolding rules
bad-server = refl

-- the number parses, the table is refused, the index is 0
largest-number : plan_of (codes "T,0,6,2,4294967295\nS,2,0,5,2\nR,8\n") ≡ refused_plan (PlanRefusal.Call (Refusal.BadTask 0)) 0
unfolding rules
largest-number = refl

-- ---- Too long wins over all: 65,537 line feeds. One less, and the first line is bad.
too_long : plan_of (replicate 65537 10) ≡ refused_plan PlanRefusal.TooLong 0
unfolding rules
too_long = refl

as_long_as_may_be : plan_of (replicate 65536 10) ≡ refused_plan PlanRefusal.BadLine 1
unfolding rules
as_long_as_may_be = refl

-- ---- Accepted plans
-- document 01's listing
abbrev pub listing : List ℕ
listing = codes "T,3,6,2,6\nS,2,0,5,2\nA,3,7,4\nR,8\n"

the_listing :
    plan_of listing ≡
    accepted_plan
    (record {
      tasks = record { phase = 3; period = 6; exec = 2; deadline = 6 } ∷ replicate 15 (record { phase = 0; period = 0; exec = 0; deadline = 0 });
      n = 1;
      server = record { kind = 2; place = 0; period = 5; budget = 2 };
    })
    8
unfolding rules
the_listing = refl

the_arrivals : arrivals_from listing 0 ≡ record { tick = 3; id = 7; work = 4 } ∷ []
unfolding rules
the_arrivals = refl

-- the same with every field padded to ten digits (02, request 4/13)
abbrev padded_listing : List ℕ
padded_listing = codes "T,0000000003,0000000006,0000000002,0000000006\nS,0000000002,0000000000,0000000005,0000000002\nA,0000000003,0000000007,0000000004\nR,0000000008\n"

padded_listing_lem : (plan_of padded_listing ≡ plan_of listing) × (arrivals_from padded_listing 0 ≡ arrivals_from listing 0)
unfolding rules
padded_listing_lem = (refl, refl)

-- it is the listing with nine zeros behind each comma, over the ends of the lines
padded_so : padded (replicate 12 9) listing ≡ padded_listing
unfolding leading allowed padded
padded_so = refl

-- sixteen tasks, works of 1 and 60,000, ids that repeat, equal ticks, and 1,000,000 ticks
sixteen :
    plan_of (codes "T,0,6,2,6\nT,0,6,2,6\nT,0,6,2,6\nT,0,6,2,6\nT,0,6,2,6\nT,0,6,2,6\nT,0,6,2,6\nT,0,6,2,6\nT,0,6,2,6\nT,0,6,2,6\nT,0,6,2,6\nT,0,6,2,6\nT,0,6,2,6\nT,0,6,2,6\nT,0,6,2,6\nT,0,6,2,6\nS,0,16,0,0\nA,5,1,1\nA,5,1,60000\nR,1000000\n") ≡
    accepted_plan
    (record { tasks = replicate 16 (record { phase = 0; period = 6; exec = 2; deadline = 6 }); n = 16; server = record { kind = 0; place = 16; period = 0; budget = 0 } })
    1_000_000
unfolding rules
sixteen = refl

no_ticks :
    plan_of (codes "T,3,6,2,6\nS,2,0,5,2\nR,0\n") ≡
    accepted_plan
    (record {
      tasks = record { phase = 3; period = 6; exec = 2; deadline = 6 } ∷ replicate 15 (record { phase = 0; period = 0; exec = 0; deadline = 0 });
      n = 1;
      server = record { kind = 2; place = 0; period = 5; budget = 2 };
    })
    0
unfolding rules
no_ticks = refl
