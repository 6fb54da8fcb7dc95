-- Laws of lines that are written: one that has room or may have none, and numbered ones one by one.
use Rattle.std.specs.Prelude.{ℕ, zero, suc, ◌+◌, ◌≤◌, ◌<◌, ◌≡◌, List, [], ◌∷◌, ◌++◌, length, get_or, take}
use Rattle.std.proofs.Common.{sym, ap, ◌∙◌, append-nil, append_assoc, arith, add-one}
use Rattle.text.specs.Buffer.{Wrote, if_room, wrote-same, has_room, then, nothing_written}
use Rattle.text.specs.Lines.{Line, line_room, line_bytes}
use Rattle.heading.specs.Heading.{numbered}

-- a line that has room
pub line_in : {l m : List ℕ} {at r : ℕ} (x y : Line) → at + line_room ≤ length l → Wrote l at (if_room line_room l at (line_bytes x)) m r → x ≡ y → Wrote l at (line_bytes y) m r
line_in {l} {m} {at} x y h w e = wrote-same (has_room line_room l at (line_bytes x) h ∙ ap line_bytes e) w

-- a line that may have none
pub line_or : {l m : List ℕ} {at r : ℕ} (x y : Line) → Wrote l at (if_room line_room l at (line_bytes x)) m r → x ≡ y → Wrote l at (if_room line_room l at (line_bytes y)) m r
line_or {l} {m} {at} x y w e = wrote-same (ap (λ (z : Line). if_room line_room l at (line_bytes z)) e) w

-- one line more
numbered-on :
    {A : Type 0} (line : ℕ → A → Line) (i : ℕ) (xs : List A) (j : ℕ) (d : A) → i < length xs →
    numbered line j (take i xs) ++ line_bytes (line (j + i) (get_or xs i d)) ≡ numbered line j (take (suc i) xs)
unfolding numbered
numbered-on line i [] j d h = absurd (omega arith)
numbered-on line zero (x ∷ xs) j d h =
    let e : j + 0 ≡ j = omega arith in
    rw e (sym (append-nil (line_bytes (line j x))))
numbered-on line (suc i) (x ∷ xs) j d h =
    let e : j + suc i ≡ suc j + i = omega arith in
    let k : i < length xs = omega arith in
    append_assoc (line_bytes (line j x)) (numbered line (suc j) (take i xs)) (line_bytes (line (j + suc i) (get_or xs i d)))
    ∙ ap (λ (l : List ℕ). line_bytes (line j x) ++ l)
    (ap (λ (n : ℕ). numbered line (suc j) (take i xs) ++ line_bytes (line n (get_or xs i d))) e ∙ numbered-on line i xs (suc j) d k)

-- and written
pub numbered_next :
    {A : Type 0} (line : ℕ → A → Line) (xs : List A) (d : A) (j i : ℕ) {l m n : List ℕ} {from at r : ℕ} (x : Line) → i < length xs → x ≡ line (j + i) (get_or xs i d) → at + line_room ≤ length m →
    Wrote l from (numbered line j (take i xs)) m at → Wrote m at (if_room line_room m at (line_bytes x)) n r → Wrote l from (numbered line j (take (i + 1) xs)) n r
numbered_next line xs d j i x h e k v w =
    wrote-same (numbered-on line i xs j d h ∙ ap (λ (y : ℕ). numbered line j (take y xs)) (sym (add-one i)))
    (then v (line_in x (line (j + i) (get_or xs i d)) k w e))

-- none yet
pub numbered-none : {A : Type 0} (line : ℕ → A → Line) (xs : List A) (j : ℕ) (l : List ℕ) (at : ℕ) → Wrote l at (numbered line j (take 0 xs)) l at
unfolding numbered
numbered-none line xs j l at = nothing_written l at
