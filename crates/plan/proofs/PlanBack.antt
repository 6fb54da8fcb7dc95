-- A plan printed from its fields reads back as those fields: its lines one by one, then the tasks, the server, the requests and the ticks.
use Rattle.std.specs.Prelude.{ℕ, zero, suc, ◌+◌, ◌≤◌, ◌<◌, ◌≡◌, refl, Bool, true, false, Option, Some, Result, Ok, List, [], ◌∷◌, ◌++◌, length, take, slice_set, ◌==◌, if◌then◌else◌}
use Rattle.std.proofs.Common.{sym, ap, ◌∙◌, arith, add-one, eq-eqb, le-leb, lt-ltb, le-ltb, length-set, append-nil, append_assoc}
use Rattle.lists.specs.Tests.{never}
use Rattle.server.specs.declared.Server.{Server}
use Rattle.queue.specs.Queue.{work_fits}
use Rattle.table.specs.declared.Task.{Task}
use Rattle.table.specs.declared.Table.{Table}
use Rattle.table.specs.declared.Refusal.{Refusal}
use Rattle.table.specs.Limits.{max_tasks}
use Rattle.table.specs.State.{table_check}
use Rattle.text.specs.Decimal.{decimal, is_digit, digits}
use Rattle.text.specs.ReadBack.{decimal-digits}
use Rattle.plan.specs.declared.line.Arrival.{Arrival}
use Rattle.plan.specs.declared.line.Line.{Line}
use Rattle.plan.specs.Text.{piece, grow, split}
use Rattle.plan.specs.Lines.{max_ticks, line_of}
use Rattle.plan.specs.LineBack.{fields, AllFit, task_text, server_text, arrival_text, run_text}
use Rattle.plan.proofs.LineBack.{apart, first-digit, task_back, server_back, arrival_back, run_back}
use Rattle.plan.specs.declared.refusal.PlanRefusal.{PlanRefusal}
use Rattle.plan.specs.declared.refusal.Rejection.{Rejection}
use Rattle.plan.specs.declared.reading.Stage.{Stage}
use Rattle.plan.specs.declared.reading.Reading.{Reading}
use Rattle.plan.specs.declared.reading.Plan.{Plan}
use Rattle.plan.specs.Plan.{blank, fresh_reading, judged, with_task, with_server, moved, accepted_plan, tabled, closed, closing, ending, or_else, reads, refused_plan, misplaced, bad_work, max_bytes, plan_of, arrival_in, arrivals, arrivals_from}

-- ---- text without a line feed
unfoldable pub without : ℕ → List ℕ → Bool
without c [] = true
without c (b ∷ bs) = if b == c then false else without c bs

module _ (c : ℕ) where
  split_step :
      (b : ℕ) (bs rest : List ℕ) (d : Bool) → (b == c) ≡ d → (if d then false else without c bs) ≡ true →
      (without c bs ≡ true → split c (bs ++ c ∷ rest) ≡ piece bs (split c rest)) →
      (if d then piece [] (split c (bs ++ c ∷ rest)) else grow b (split c (bs ++ c ∷ rest))) ≡ piece (b ∷ bs) (split c rest)
  split_step b bs rest true e h k = never refl h
  split_step b bs rest false e h k = ap (grow b) (k h)

  -- what stands before a c that closes it is one piece
  pub split_at : (l rest : List ℕ) → without c l ≡ true → split c (l ++ c ∷ rest) ≡ piece l (split c rest)
  unfolding split without
  split_at [] rest h = rw (eq-eqb c c refl) refl
  split_at (b ∷ bs) rest h = split_step b bs rest (b == c) refl h (split_at bs rest)

  pub without_append : (l m : List ℕ) → without c l ≡ true → without c m ≡ true → without c (l ++ m) ≡ true
  unfolding without
  without_append [] m h k = k
  without_append (b ∷ bs) m h k = by (b == c) h (without_append bs m)
    where
      by : (d : Bool) → (if d then false else without c bs) ≡ true → (without c bs ≡ true → without c m ≡ true → without c (bs ++ m) ≡ true) →
          (if d then false else without c (bs ++ m)) ≡ true
      by true e g = never refl e
      by false e g = g e k

  module _ (low : c < 48) where
    pub digits-without : (l : List ℕ) → digits l ≡ true → without c l ≡ true
    unfolding without digits
    digits-without [] h = refl
    digits-without (b ∷ bs) h =
        let f = first-digit c low b bs (is_digit b) refl h in
        rw (apart c low b f.0) (digits-without bs f.1)

fields-without : (v : ℕ) (vs : List ℕ) → without 10 (fields v vs) ≡ true
unfolding without
fields-without v [] = digits-without 10 (omega arith) (decimal v) (decimal-digits v)
fields-without v (w ∷ vs) = without_append 10 (decimal v) (44 ∷ fields w vs) (digits-without 10 (omega arith) (decimal v) (decimal-digits v)) (fields-without w vs)

-- ---- lines
-- a line as it is printed, without its line feed
abbrev pub line_text : Line → List ℕ
line_text (Line.Task x) = task_text x
line_text (Line.Server s) = server_text s
line_text (Line.Arrival a) = arrival_text a
line_text (Line.Run n) = run_text n

-- its numbers are ones that a line of its letter may hold
abbrev pub LineFits : Line → Type 0
LineFits (Line.Task x) = AllFit x.phase (x.period ∷ x.exec ∷ x.deadline ∷ [])
LineFits (Line.Server s) = AllFit s.kind (s.place ∷ s.period ∷ s.budget ∷ [])
LineFits (Line.Arrival a) = AllFit a.tick (a.id ∷ a.work ∷ [])
LineFits (Line.Run n) = n ≤ max_ticks

pub line_back : (l : Line) → LineFits l → line_of (line_text l) ≡ Some l
unfolding line_of
line_back (Line.Task x) h = task_back x h
line_back (Line.Server s) h = server_back s h
line_back (Line.Arrival a) h = arrival_back a h
line_back (Line.Run n) h = run_back n h

text-without : (l : Line) → without 10 (line_text l) ≡ true
unfolding without
text-without (Line.Task x) = fields-without x.phase (x.period ∷ x.exec ∷ x.deadline ∷ [])
text-without (Line.Server s) = fields-without s.kind (s.place ∷ s.period ∷ s.budget ∷ [])
text-without (Line.Arrival a) = fields-without a.tick (a.id ∷ a.work ∷ [])
text-without (Line.Run n) = fields-without n []

-- lines, "each line closed by a line feed"
abbrev pub lines_text : List Line → List ℕ
lines_text [] = []
lines_text (l ∷ ls) = line_text l ++ 10 ∷ lines_text ls

abbrev pub LinesFit : List Line → Type 0
LinesFit [] = Unit {0}
LinesFit (l ∷ ls) = LineFits l × LinesFit ls

-- the check of lines that are read already
abbrev pub read_lines : Reading → ℕ → List Line → Result Plan Rejection
read_lines r line [] = closing r line
read_lines r line (l ∷ ls) = or_else (judged r.stage (Some l)) line (read_lines (moved r (Some l)) (suc line) ls)

abbrev pub arrivals_in : List Line → List Arrival
arrivals_in [] = []
arrivals_in (l ∷ ls) = arrival_in (Some l) (arrivals_in ls)

pub lines_back : (r : Reading) (line : ℕ) (ls : List Line) → LinesFit ls → reads r line (split 10 (lines_text ls)) ≡ read_lines r line ls
unfolding reads split ending
lines_back r line [] h = refl
lines_back r line (l ∷ ls) h =
    ap (reads r line) (split_at 10 (line_text l) (lines_text ls) (text-without l))
    ∙ ap (λ (x : Option Line). or_else (judged r.stage x) line (reads (moved r x) (suc line) (split 10 (lines_text ls)))) (line_back l h.0)
    ∙ ap (or_else (judged r.stage (Some l)) line) (lines_back (moved r (Some l)) (suc line) ls h.1)

pub lines-arrivals : (ls : List Line) → LinesFit ls → arrivals (split 10 (lines_text ls)) ≡ arrivals_in ls
unfolding arrivals split
lines-arrivals [] h = refl
lines-arrivals (l ∷ ls) h =
    ap arrivals (split_at 10 (line_text l) (lines_text ls) (text-without l))
    ∙ ap (λ (x : Option Line). arrival_in x (arrivals (split 10 (lines_text ls)))) (line_back l h.0) ∙ ap (arrival_in (Some l)) (lines-arrivals ls h.1)

-- ---- a plan: "up to sixteen T; one S; any A with ticks never falling; last R"
abbrev pub request_lines : List Arrival → ℕ → List Line
request_lines [] n = Line.Run n ∷ []
request_lines (a ∷ rest) n = Line.Arrival a ∷ request_lines rest n

abbrev pub plan_lines : List Task → Server → List Arrival → ℕ → List Line
plan_lines [] s rest n = Line.Server s ∷ request_lines rest n
plan_lines (x ∷ xs) s rest n = Line.Task x ∷ plan_lines xs s rest n

-- ticks that do not fall from t on, and works that a request may have
abbrev pub InOrder : ℕ → List Arrival → Type 0
InOrder t [] = Unit {0}
InOrder t (a ∷ rest) = (t ≤ a.tick) × (work_fits a.work ≡ true) × InOrder a.tick rest

-- the table of some tasks and a server
unfoldable pub with_tasks : Table → List Task → Table
with_tasks t [] = t
with_tasks t (x ∷ xs) = with_tasks (with_task t x) xs

abbrev pub table_of : List Task → Server → Table
table_of xs s = with_server (with_tasks blank xs) s

in_place : (t : ℕ) (a : Arrival) → t ≤ a.tick → work_fits a.work ≡ true → judged (Stage.Arrivals t) (Some (Line.Arrival a)) ≡ Ok tt
unfolding judged
in_place t a h w =
    ap (λ (b : Bool). if b then (if work_fits a.work then Ok tt else bad_work) else misplaced) (le-leb _ _ h)
    ∙ ap (λ (b : Bool). if b then Ok tt else bad_work) w

requests_read :
    (table : Table) (t line : ℕ) (rest : List Arrival) (n : ℕ) → InOrder t rest →
    read_lines (record { table = table; stage = Stage.Arrivals t }) line (request_lines rest n) ≡ tabled (table_check table) table n
unfolding judged moved closed
requests_read table t line [] n h = refl
requests_read table t line (a ∷ rest) n h =
    ap (λ (j : Result Unit PlanRefusal). or_else j line (read_lines (record { table = table; stage = Stage.Arrivals a.tick }) (suc line) (request_lines rest n)))
    (in_place t a h.0 h.1) ∙ requests_read table a.tick (suc line) rest n h.2

tasks_read :
    (table : Table) (line : ℕ) (xs : List Task) (s : Server) (rest : List Arrival) (n : ℕ) → InOrder 0 rest →
    read_lines (record { table = table; stage = Stage.Tasks }) line (plan_lines xs s rest n)
    ≡ tabled (table_check (with_server (with_tasks table xs) s)) (with_server (with_tasks table xs) s) n
unfolding judged moved with_tasks
tasks_read table line [] s rest n h = requests_read (with_server table s) 0 (suc line) rest n h
tasks_read table line (x ∷ xs) s rest n h = tasks_read (with_task table x) (suc line) xs s rest n h

requests_in : (rest : List Arrival) (n : ℕ) → arrivals_in (request_lines rest n) ≡ rest
requests_in [] n = refl
requests_in (a ∷ rest) n = ap (λ (l : List Arrival). a ∷ l) (requests_in rest n)

arrivals_in_lem : (xs : List Task) (s : Server) (rest : List Arrival) (n : ℕ) → arrivals_in (plan_lines xs s rest n) ≡ rest
arrivals_in_lem [] s rest n = requests_in rest n
arrivals_in_lem (x ∷ xs) s rest n = arrivals_in_lem xs s rest n

-- ---- the table's tasks are those that were printed
take_set : (l : List Task) (i : ℕ) (x : Task) → i < length l → take (suc i) (slice_set l i x) ≡ take i l ++ x ∷ []
take_set [] i x h = absurd (omega arith)
take_set (y ∷ l) zero x h = refl
take_set (y ∷ l) (suc i) x h = ap (λ (r : List Task). y ∷ r) (take_set l i x (omega arith))

placed : Table → Task → Table
placed t x = record { tasks = slice_set t.tasks t.n x; n = t.n + 1; server = t.server }

has-place : (t : Table) (x : Task) → t.n < max_tasks → with_task t x ≡ placed t x
unfolding with_task placed
has-place t x h =
    ap (λ (b : Bool). if b then placed t x else (record { tasks = t.tasks; n = max_tasks + 1; server = t.server })) (lt-ltb _ _ h)

tasks-after :
    (xs : List Task) (t : Table) → length t.tasks ≡ max_tasks → t.n + length xs ≤ max_tasks →
    ((with_tasks t xs).n ≡ t.n + length xs) × (take (t.n + length xs) (with_tasks t xs).tasks ≡ take t.n t.tasks ++ xs)
unfolding with_tasks placed
tasks-after [] t len h =
    let none : t.n + 0 ≡ t.n = omega arith in
    (sym none, ap (λ (k : ℕ). take k t.tasks) none ∙ sym (append-nil (take t.n t.tasks)))
tasks-after (x ∷ xs) t len h =
    let room : t.n < max_tasks = omega arith in
    let inside : t.n < length t.tasks = omega arith in
    let same : with_tasks (with_task t x) xs ≡ with_tasks (placed t x) xs = ap (λ (z : Table). with_tasks z xs) (has-place t x room) in
    let on : (t.n + 1) + length xs ≡ t.n + suc (length xs) = omega arith in
    let later = tasks-after xs (placed t x) (length-set t.tasks t.n x ∙ len) (omega arith) in (
      ap (λ (z : Table). z.n) same ∙ later.0 ∙ on,
      ap (λ (z : Table). take (t.n + suc (length xs)) z.tasks) same
          ∙ ap (λ (k : ℕ). take k (with_tasks (placed t x) xs).tasks) (sym on) ∙ later.1
          ∙ ap (λ (k : ℕ). take k (slice_set t.tasks t.n x) ++ xs) (add-one t.n)
          ∙ ap (λ (l : List Task). l ++ xs) (take_set t.tasks t.n x inside) ∙ append_assoc (take t.n t.tasks) (x ∷ []) xs,
    )

tasks_back :
    (xs : List Task) (s : Server) → length xs ≤ max_tasks → ((table_of xs s).n ≡ length xs) × (take (length xs) (table_of xs s).tasks ≡ xs)
unfolding blank
tasks_back xs s h =
    let none : 0 + length xs ≡ length xs = omega arith in
    let after = tasks-after xs blank refl (omega arith) in
    (after.0 ∙ none, ap (λ (k : ℕ). take k (with_tasks blank xs).tasks) (sym none) ∙ after.1)

-- ---- the whole
-- what is read back of a plan's text: the plan of its fields, the requests, and the tasks, as many as a table holds
pub record Back (xs : List Task) (s : Server) (rest : List Arrival) (n : ℕ) (text : List ℕ) : Type 0 where
  pub plan : plan_of text ≡ accepted_plan (table_of xs s) n
  pub requests : arrivals_from text 0 ≡ rest
  pub tasks : length xs ≤ max_tasks → ((table_of xs s).n ≡ length xs) × (take (length xs) (table_of xs s).tasks ≡ xs)

module _ (xs : List Task) (s : Server) (rest : List Arrival) (n : ℕ) (fits : LinesFit (plan_lines xs s rest n)) where
  -- the plan of these fields
  abbrev pub plan_text : List ℕ
  plan_text = lines_text (plan_lines xs s rest n)

  plan_read : length plan_text ≤ max_bytes → InOrder 0 rest → table_check (table_of xs s) ≡ Ok tt → plan_of plan_text ≡ accepted_plan (table_of xs s) n
  unfolding plan_of fresh_reading tabled
  plan_read h o e =
      ap (λ (b : Bool). if b then refused_plan PlanRefusal.TooLong 0 else reads fresh_reading 1 (split 10 plan_text)) (le-ltb _ _ h)
      ∙ lines_back fresh_reading 1 (plan_lines xs s rest n) fits ∙ tasks_read blank 1 xs s rest n o ∙ ap (λ (k : Result Unit Refusal). tabled k (table_of xs s) n) e

  requests_back : arrivals_from plan_text 0 ≡ rest
  unfolding arrivals_from
  requests_back = lines-arrivals (plan_lines xs s rest n) fits ∙ arrivals_in_lem xs s rest n

  pub plan_back : length plan_text ≤ max_bytes → InOrder 0 rest → table_check (table_of xs s) ≡ Ok tt → Back xs s rest n plan_text
  plan_back h o e = record { plan = plan_read h o e; requests = requests_back; tasks = tasks_back xs s }
