-- Laws of the head: what is left of it to print, row by row.
use Prim.Native.Nat.{ℕ, suc, ◌+◌, ◌≤◌, ◌<◌}
use Rattle.std.specs.Prelude.{◌≡◌, List, ◌++◌, length, take, drop, get_or, min}
use Rattle.std.proofs.Math.Path.{refl}
use Rattle.std.proofs.Common.{add-one, append_assoc, drop-cons, drop_of_length-le}
use Rattle.std.proofs.lemmas.List.{take_min}
use Rattle.text.specs.Lines.{line_bytes}
use Rattle.lines.specs.Lines.{task_bound_line}
use Rattle.bounds.specs.declared.Admission.{Admission}
use Rattle.heading.specs.Heading.{numbered, verdict_text, head_text}

-- the lines from a row on, of the bounds of the tasks in use
unfoldable pub head_from : ℕ → List ℕ → Admission → List ℕ
head_from i bounds a = numbered task_bound_line i (drop i bounds) ++ verdict_text a.serverbound a.admitted

pub head_whole : (n k : ℕ) (a : Admission) → k ≡ min n (length a.bounds) → head_text n a ≡ head_from 0 (take k a.bounds) a
unfolding head_text head_from
head_whole n k a e = rw (e, take_min n a.bounds) refl

module _ (bounds : List ℕ) (a : Admission) where
  pub head-on : (i : ℕ) → i < length bounds →
      head_from i bounds a ≡ line_bytes (task_bound_line i (get_or bounds i 0)) ++ head_from (i + 1) bounds a
  unfolding head_from numbered
  head-on i h =
      rw (drop-cons bounds i 0 h, add-one)
      (append_assoc (line_bytes (task_bound_line i (get_or bounds i 0))) (numbered task_bound_line (suc i) (drop (suc i) bounds)) (verdict_text a.serverbound a.admitted))

  pub head-end : (i : ℕ) → length bounds ≤ i → head_from i bounds a ≡ verdict_text a.serverbound a.admitted
  unfolding head_from numbered
  head-end i h = rw (drop_of_length-le bounds h) refl
