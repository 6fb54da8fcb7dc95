-- How many bytes a head has at most: a B line for each task, the server's, and the V line.
use Rattle.std.specs.Prelude.{ℕ, suc, ◌*◌, ◌≤◌, Bool, List, [], ◌∷◌, length, take, min}
use Rattle.std.proofs.Common.{arith, length-append, length-take}
use Rattle.table.specs.Limits.{max_tasks}
use Rattle.bounds.specs.declared.Admission.{Admission}
use Rattle.text.specs.Lines.{Line, line_room, line_bytes}
use Rattle.text.proofs.Short.{line_short}
use Rattle.lines.specs.Lines.{task_bound_line, server_bound_line, admitted_line}
use Rattle.heading.specs.Heading.{numbered, bounds_text, verdict_text, head_text}
use Rattle.heading.specs.Rooms.{verdict_room, head_room}

-- lines for a list, none of which has more bytes than a line may
pub numbered_short :
    {A : Type 0} (line : ℕ → A → Line) (i : ℕ) (xs : List A) → ((j : ℕ) (x : A) → length (line_bytes (line j x)) ≤ line_room) →
    length (numbered line i xs) ≤ length xs * line_room
unfolding numbered
numbered_short line i [] h = omega arith
numbered_short line i (x ∷ xs) h =
    omega (arith, h i x, length-append (line_bytes (line i x)) (numbered line (suc i) xs), numbered_short line (suc i) xs h)

pub bounds_short : (i : ℕ) (bs : List ℕ) → length (bounds_text i bs) ≤ length bs * line_room
bounds_short i bs = numbered_short task_bound_line i bs (λ j b. line_short (task_bound_line j b) (omega arith))

pub verdict_short : (bound : ℕ) (admitted : Bool) → length (verdict_text bound admitted) ≤ verdict_room
unfolding verdict_text
verdict_short bound admitted =
    omega (arith, length-append (line_bytes (server_bound_line bound)) (line_bytes (admitted_line admitted)), line_short (server_bound_line bound) (omega arith), line_short (admitted_line admitted) (omega arith))

pub head_short : (n : ℕ) (a : Admission) → min n (length a.bounds) ≤ max_tasks → length (head_text n a) ≤ head_room
unfolding head_text
head_short n a h =
    omega (arith, length-append (bounds_text 0 (take n a.bounds)) (verdict_text a.serverbound a.admitted), bounds_short 0 (take n a.bounds), length-take n a.bounds, verdict_short a.serverbound a.admitted)
