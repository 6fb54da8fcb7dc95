-- What is printed, where a writer says what it holds.
use Rattle.std.specs.Prelude.{◌≡◌, ℕ, List, [], ◌++◌, MatchResult, IsErr}
use Rattle.std.proofs.Common.{refl, sym, ap, ◌∙◌, append-nil, append_assoc, Result, Ok, Err}
use Rattle.std.proofs.lemmas.Result.{MatchResult-from_err}
use Rattle.std.specs.declared.option.Option.{Option}
use Rattle.std.specs.Io.KnownBytes.{Appends, Keeps}
use Rattle.std.proofs.KnownBytes.{Appends-nil, Appends-trans, Appends-kept}

-- of a text all but `rest` is printed: a writer that held `old` holds `new`
pub record Printing (old new : Option (List ℕ)) (text rest : List ℕ) : Type 0 where
  pub front : List ℕ
  pub parted : text ≡ front ++ rest
  pub printed : Appends old new front

-- a front of a text is printed
abbrev pub PrintsFront : Option (List ℕ) → Option (List ℕ) → List ℕ → Type 0
PrintsFront old new text = (rest : List ℕ) × Printing old new text rest

-- a text is printed, and where the writer failed a front of it, and nothing else
abbrev pub Prints : {A E : Type 0} → Option (List ℕ) → Option (List ℕ) → Result A E → List ℕ → Type 0
Prints old new result text = MatchResult result (λ _. Appends old new text) (λ _. PrintsFront old new text)

-- ---- laws
-- nothing yet
pub begun : (a : Option (List ℕ)) (text : List ℕ) → Printing a a text text
begun a text = record { front = []; parted = refl; printed = Appends-nil a }

module _ {a b : Option (List ℕ)} {text rest : List ℕ} (p : Printing a b text rest) where
  -- some more
  pub more : {c : Option (List ℕ)} (xs left : List ℕ) → rest ≡ xs ++ left → Appends b c xs → Printing a c text left
  more {c} xs left e q = record {
    front = p.front ++ xs;
    parted = p.parted ∙ ap (λ (l : List ℕ). p.front ++ l) e ∙ sym (append_assoc p.front xs left);
    printed = Appends-trans a b c p.front xs p.printed q;
  }

  pub some_more : {c : Option (List ℕ)} (xs left : List ℕ) → rest ≡ xs ++ left → PrintsFront b c xs → PrintsFront a c text
  some_more {c} xs left e q =
      (q.0 ++ left, more q.1.front (q.0 ++ left) (e ∙ ap (λ (l : List ℕ). l ++ left) q.1.parted ∙ append_assoc q.1.front q.0 left) q.1.printed)

  -- the writer failed, and kept what it held
  pub kept : {c : Option (List ℕ)} → Keeps b c → Printing a c text rest
  kept {c} k = record { front = p.front; parted = p.parted; printed = Appends-kept a b c p.front p.printed k }

  pub all : rest ≡ [] → Appends a b text
  all e = rw (p.parted, e, append-nil p.front) p.printed

  -- the rest
  pub the_rest : {A E : Type 0} (c : Option (List ℕ)) (r : Result A E) → Prints b c r rest → Prints a c r text
  the_rest c (Ok x) q = rw p.parted (Appends-trans a b c p.front rest p.printed q)
  the_rest c (Err e) q = some_more rest [] (sym (append-nil rest)) q

-- at an error
pub failed : {A E : Type 0} {a b : Option (List ℕ)} {text : List ℕ} (r : Result A E) → IsErr r → PrintsFront a b text → Prints a b r text
failed {a = a} {b = b} {text = text} r h p = MatchResult-from_err r (λ _. Appends a b text) (λ _. PrintsFront a b text) h (λ _. p)
