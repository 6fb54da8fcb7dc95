-- Numbers at the edges and a line of document 01's listing, computed.
use Rattle.std.specs.Prelude.{◌≡◌, refl, [], ◌∷◌, map, replicate}
use Rattle.text.specs.Decimal.{width_from, width_of, digits_of, decimal}
use Rattle.text.specs.declared.Part.{Part}
use Rattle.text.specs.Lines.{line_bytes}

unfoldable pub rules : Unit {0}
unfolding width_from width_of digits_of decimal line_bytes
rules = tt

-- 0
zero_digit : decimal 0 ≡ 48 ∷ []
unfolding rules
zero_digit = refl

-- 4294967295
largest : decimal 4294967295 ≡ 52 ∷ 50 ∷ 57 ∷ 52 ∷ 57 ∷ 54 ∷ 55 ∷ 50 ∷ 57 ∷ 53 ∷ []
unfolding rules
largest = refl

-- the numbers at the edges of the powers of ten: the last with 1 to 9 digits, and the first with one digit more
lasts : map decimal (9 ∷ 99 ∷ 999 ∷ 9999 ∷ 99999 ∷ 999999 ∷ 9999999 ∷ 99999999 ∷ 999999999 ∷ []) ≡ map (λ n. replicate n 57) (1 ∷ 2 ∷ 3 ∷ 4 ∷ 5 ∷ 6 ∷ 7 ∷ 8 ∷ 9 ∷ [])
unfolding rules
lasts = refl

firsts : map decimal (10 ∷ 100 ∷ 1000 ∷ 10000 ∷ 100000 ∷ 1000000 ∷ 10000000 ∷ 100000000 ∷ 1000000000 ∷ []) ≡ map (λ n. 49 ∷ replicate n 48) (1 ∷ 2 ∷ 3 ∷ 4 ∷ 5 ∷ 6 ∷ 7 ∷ 8 ∷ 9 ∷ [])
unfolding rules
firsts = refl

-- X,3,A,7,0
a_line : line_bytes (record { letter = 88; parts = Part.Number 3 ∷ Part.Letter 65 ∷ Part.Number 7 ∷ Part.Number 0 ∷ [] }) ≡
    88 ∷ 44 ∷ 51 ∷ 44 ∷ 65 ∷ 44 ∷ 55 ∷ 44 ∷ 48 ∷ 10 ∷ []
unfolding rules
a_line = refl
