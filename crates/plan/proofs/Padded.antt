-- A plan whose fields are padded is the same plan: the same answer and line, the same table, the same ticks, the same A lines.
use Rattle.std.specs.Prelude.{ℕ, suc, ◌≤◌, ◌≡◌, refl, Bool, true, false, Option, List, [], ◌∷◌, length, ◌==◌, if◌then◌else◌}
use Rattle.std.proofs.Common.{sym, ap, ◌∙◌, subst, arith, eqb-true, le-ltb}
use Rattle.lists.specs.Tests.{either}
use Rattle.server.specs.declared.Server.{Server}
use Rattle.table.specs.declared.Task.{Task}
use Rattle.plan.specs.declared.line.Arrival.{Arrival}
use Rattle.plan.specs.declared.line.Line.{Line}
use Rattle.plan.specs.Text.{Pieces, end, piece, grow, split}
use Rattle.plan.specs.Lines.{line_of}
use Rattle.plan.specs.LinePadded.{zeros, leading, allowed, padded}
use Rattle.plan.proofs.LinePadded.{length_zeros, first_of, on_first, first-zeros, leading-first, line-padded}
use Rattle.plan.specs.declared.refusal.PlanRefusal.{PlanRefusal}
use Rattle.plan.specs.declared.reading.Reading.{Reading}
use Rattle.plan.specs.Plan.{fresh_reading, judged, moved, refused_plan, ending, or_else, reads, max_bytes, plan_of, arrival_in, arrivals, arrivals_from}
use Rattle.plan.proofs.PlanBack.{Back}

-- ---- alike lines: the second is the first with its fields padded
abbrev AlikeLine : List ℕ → List ℕ → Type 0
AlikeLine l m = (js : List ℕ) × (m ≡ padded js l)

abbrev Alike : Pieces → Pieces → Type 0
Alike (end l) (end m) = AlikeLine l m
Alike (end l) (piece m ms) = ⊥
Alike (piece l ls) (end m) = ⊥
Alike (piece l ls) (piece m ms) = AlikeLine l m × Alike ls ms

alike_itself : (ps : Pieces) → Alike ps ps
unfolding padded
alike_itself (end l) = ([], refl)
alike_itself (piece l ls) = (([], refl), alike_itself ls)

-- ---- a padded text has alike lines
-- a byte put before a text and before an alike one, there with zeros
alike_byte :
    (b k : ℕ) (l m : List ℕ) →
    (AlikeLine (first_of (split 10 l)) (first_of (split 10 m)) → AlikeLine (b ∷ first_of (split 10 l)) (b ∷ zeros k (first_of (split 10 m)))) →
    Alike (split 10 l) (split 10 m) → Alike (grow b (split 10 l)) (grow b (split 10 (zeros k m)))
alike_byte b k l m h a =
    subst (Alike (grow b (split 10 l))) (sym (first-zeros 10 (omega arith) k (λ (x : List ℕ). b ∷ x) m) ∙ grown (split 10 (zeros k m))) (by (split 10 l) (split 10 m) h a)
  where
    grown : (ps : Pieces) → on_first (λ (x : List ℕ). b ∷ x) ps ≡ grow b ps
    grown (end x) = refl
    grown (piece x xs) = refl

    by : (ps qs : Pieces) → (AlikeLine (first_of ps) (first_of qs) → AlikeLine (b ∷ first_of ps) (b ∷ zeros k (first_of qs))) → Alike ps qs →
        Alike (grow b ps) (on_first (λ (x : List ℕ). b ∷ zeros k x) qs)
    by (end x) (end y) f c = f c
    by (end x) (piece y ys) f c = absurd c
    by (piece x xs) (end y) f c = absurd c
    by (piece x xs) (piece y ys) f c = (f c.0, c.1)

on-comma : (k : ℕ) (l m : List ℕ) → AlikeLine l m → AlikeLine (44 ∷ l) (44 ∷ zeros (allowed k (leading l)) m)
unfolding padded
on-comma k l m (js, q) = (k ∷ js, ap (λ (x : List ℕ). 44 ∷ zeros (allowed k (leading l)) x) q)

on-other : (b : ℕ) → (b == 44) ≡ false → (l m : List ℕ) → AlikeLine l m → AlikeLine (b ∷ l) (b ∷ m)
unfolding padded
on-other b e l m ([], q) = ([], ap (λ (x : List ℕ). b ∷ x) q)
on-other b e l m (j ∷ js, q) = (j ∷ js, rw e (ap (λ (x : List ℕ). b ∷ x) q))

alike : (ks l : List ℕ) → Alike (split 10 l) (split 10 (padded ks l))
unfolding padded split
alike [] l = alike_itself (split 10 l)
alike (k ∷ ks) [] = ([], refl)
alike (k ∷ ks) (b ∷ l) = by (b == 44) refl (alike ks l) (alike (k ∷ ks) l)
  where
    first : List ℕ → List ℕ
    first m = first_of (split 10 m)

    comma : Alike (split 10 l) (split 10 (padded ks l)) → Alike (grow 44 (split 10 l)) (grow 44 (split 10 (zeros (allowed k (leading l)) (padded ks l))))
    comma behind = alike_byte 44 (allowed k (leading l)) l (padded ks l) (λ a.
        subst (λ (n : ℕ). AlikeLine (44 ∷ first l) (44 ∷ zeros (allowed k n) (first (padded ks l)))) (leading-first 10 (omega arith) l)
        (on-comma k (first l) (first (padded ks l)) a)) behind

    other : (b == 44) ≡ false → (d : Bool) → Alike (split 10 l) (split 10 (padded (k ∷ ks) l)) →
        Alike (if d then piece [] (split 10 l) else grow b (split 10 l)) (if d then piece [] (split 10 (padded (k ∷ ks) l)) else grow b (split 10 (padded (k ∷ ks) l)))
    other e true further = (([], refl), further)
    other e false further = alike_byte b 0 l (padded (k ∷ ks) l) (on-other b e (first l) (first (padded (k ∷ ks) l))) further

    by : (d : Bool) → (b == 44) ≡ d → Alike (split 10 l) (split 10 (padded ks l)) → Alike (split 10 l) (split 10 (padded (k ∷ ks) l)) →
        Alike (split 10 (b ∷ l)) (split 10 (if d then b ∷ zeros (allowed k (leading l)) (padded ks l) else b ∷ padded (k ∷ ks) l))
    by true e behind further = rw (eqb-true b 44 e) (comma behind)
    by false e behind further = other e (b == 10) further

-- ---- what is read of alike lines
same_line : (l m : List ℕ) → AlikeLine l m → line_of m ≡ line_of l
same_line l m (js, q) = ap line_of q ∙ line-padded js l

same-ending : (st : Reading) (line : ℕ) (l m : List ℕ) → AlikeLine l m → ending st line m ≡ ending st line l
unfolding ending padded
same-ending st line l m ([], q) = ap (ending st line) q
same-ending st line [] m (j ∷ js, q) = ap (ending st line) q
same-ending st line (x ∷ l) m (j ∷ js, q) = ap (ending st line) q ∙ by (x == 44) (zeros (allowed j (leading l)) (padded js l)) (padded (j ∷ js) l)
  where
    by : (d : Bool) (y z : List ℕ) → ending st line (if d then x ∷ y else x ∷ z) ≡ refused_plan PlanRefusal.BadLine line
    by true y z = refl
    by false y z = refl

same_reads : (st : Reading) (line : ℕ) (ps qs : Pieces) → Alike ps qs → reads st line qs ≡ reads st line ps
unfolding reads
same_reads st line (end l) (end m) a = same-ending st line l m a
same_reads st line (end l) (piece m ms) a = absurd a
same_reads st line (piece l ls) (end m) a = absurd a
same_reads st line (piece l ls) (piece m ms) a =
    ap (λ (x : Option Line). or_else (judged st.stage x) line (reads (moved st x) (suc line) ms)) (same_line l m a.0)
    ∙ ap (or_else (judged st.stage (line_of l)) line) (same_reads (moved st (line_of l)) (suc line) ls ms a.1)

same-arrivals : (ps qs : Pieces) → Alike ps qs → arrivals qs ≡ arrivals ps
unfolding arrivals
same-arrivals (end l) (end m) a = refl
same-arrivals (end l) (piece m ms) a = absurd a
same-arrivals (piece l ls) (end m) a = absurd a
same-arrivals (piece l ls) (piece m ms) a =
    ap (λ (x : Option Line). arrival_in x (arrivals ms)) (same_line l m a.0) ∙ ap (arrival_in (line_of l)) (same-arrivals ls ms a.1)

-- ---- the whole
longer : (ks l : List ℕ) → length l ≤ length (padded ks l)
unfolding padded
longer [] l = omega arith
longer (k ∷ ks) [] = omega arith
longer (k ∷ ks) (b ∷ l) =
    either (λ (m : List ℕ). suc (length l) ≤ length m) (b == 44)
    (omega (arith, longer ks l, length_zeros (allowed k (leading l)) (padded ks l))) (omega (arith, longer (k ∷ ks) l))

-- 02: "Every line kind reads by the same number rule"; "7 plan too long" is asked of the padded bytes
pub plan-padded : (ks text : List ℕ) → length (padded ks text) ≤ max_bytes → plan_of (padded ks text) ≡ plan_of text
unfolding plan_of
plan-padded ks text h =
    let short : length text ≤ max_bytes = omega (arith, longer ks text) in
    simp (le-ltb _ _ h, le-ltb _ _ short) (same_reads fresh_reading 1 (split 10 text) (split 10 (padded ks text)) (alike ks text))

pub arrivals-padded : (ks text : List ℕ) → arrivals_from (padded ks text) 0 ≡ arrivals_from text 0
unfolding arrivals_from
arrivals-padded ks text = same-arrivals (split 10 text) (split 10 (padded ks text)) (alike ks text)

-- so a plan printed from its fields and padded reads back as those fields
pub padded_back :
    (ks : List ℕ) (xs : List Task) (s : Server) (rest : List Arrival) (n : ℕ) (text : List ℕ) → length (padded ks text) ≤ max_bytes →
    Back xs s rest n text → Back xs s rest n (padded ks text)
padded_back ks xs s rest n text h b = record {
  plan = plan-padded ks text h ∙ b.plan;
  requests = arrivals-padded ks text ∙ b.requests;
  tasks = b.tasks;
}
