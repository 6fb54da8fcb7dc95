-- Cases of admission, worked out apart from the definitions by trying every length.
use Rattle.std.specs.Prelude.{ℕ, ◌-◌, ◌≡◌, refl, Bool, true, false, List, [], ◌∷◌, length, take, replicate}
use Rattle.lists.specs.Lists.{overlay}
use Rattle.server.specs.declared.Server.{Server}
use Rattle.table.specs.declared.Task.{Task}
use Rattle.table.specs.declared.Table.{Table}
use Rattle.table.specs.Limits.{max_tasks}
use Rattle.table.specs.Refusal.{number_of}
use Rattle.bounds.specs.Admission.{admission_call, admission_of}

abbrev task : ℕ → ℕ → ℕ → ℕ → Task
task f p e d = record { phase = f; period = p; exec = e; deadline = d }

abbrev server : ℕ → ℕ → ℕ → ℕ → Server
server k s p b = record { kind = k; place = s; period = p; budget = b }

abbrev table : List Task → Server → Table
table xs s = record { tasks = overlay xs (replicate max_tasks (task 0 0 0 0)); n = length xs; server = s }

-- the refusal's number, three bounds, the server's bound, admitted
abbrev says : Table → ℕ × List ℕ × ℕ × Bool
says t = (number_of (admission_call t), take 3 (admission_of t).bounds, (admission_of t).serverbound, (admission_of t).admitted)

abbrev three : List Task
three = task 0 4 1 4 ∷ task 0 7 2 7 ∷ task 0 20 3 20 ∷ []

-- deadlines below the periods, and phases, which change no bound
abbrev tight : List Task
tight = task 5 10 3 4 ∷ task 0 10 3 7 ∷ task 0 30 5 30 ∷ []

-- kind, place, period and budget of the server stand in each name
pub record AdmissionCases : Type 0 where
  pub three_deferrable_1_8_1 : says (table three (server 2 1 8 1)) ≡ (0, 1 ∷ 6 ∷ 14 ∷ [], 2, true)
  pub three_deferrable_2_8_2 : says (table three (server 2 2 8 2)) ≡ (0, 1 ∷ 3 ∷ 0 ∷ [], 6, false)
  pub three_polling_1_8_1 : says (table three (server 1 1 8 1)) ≡ (0, 1 ∷ 4 ∷ 12 ∷ [], 2, true)
  pub three_sporadic_0_8_2 : says (table three (server 3 0 8 2)) ≡ (0, 3 ∷ 6 ∷ 20 ∷ [], 2, true)
  pub three_background_3_0_0 : says (table three (server 0 3 0 0)) ≡ (0, 1 ∷ 3 ∷ 7 ∷ [], 0, true)
  pub three_polling_0_2_2 : says (table three (server 1 0 2 2)) ≡ (0, 0 ∷ 0 ∷ 0 ∷ [], 2, false)
  pub three_polling_3_9_5 : says (table three (server 1 3 9 5)) ≡ (0, 1 ∷ 3 ∷ 7 ∷ [], 0, false)
  pub three_deferrable_3_9_5 : says (table three (server 2 3 9 5)) ≡ (0, 1 ∷ 3 ∷ 7 ∷ [], 0, false)
  pub three_sporadic_3_9_5 : says (table three (server 3 3 9 5)) ≡ (0, 1 ∷ 3 ∷ 7 ∷ [], 0, false)
  pub tight_polling_2_10_2 : says (table tight (server 1 2 10 2)) ≡ (0, 3 ∷ 6 ∷ 29 ∷ [], 8, true)
  pub tight_deferrable_2_10_2 : says (table tight (server 2 2 10 2)) ≡ (0, 3 ∷ 6 ∷ 0 ∷ [], 8, false)
  pub tight_sporadic_2_10_2 : says (table tight (server 3 2 10 2)) ≡ (0, 3 ∷ 6 ∷ 29 ∷ [], 8, true)
  pub tight_polling_1_10_2 : says (table tight (server 1 1 10 2)) ≡ (0, 3 ∷ 0 ∷ 29 ∷ [], 5, false)
  -- 3/13: kind 4's demand is that of polling, and it has a bound of its own, which admission asks for
  pub three_returning_1_8_1 : says (table three (server 4 1 8 1)) ≡ (0, 1 ∷ 4 ∷ 12 ∷ [], 2, true)
  pub three_returning_3_9_5 : says (table three (server 4 3 9 5)) ≡ (0, 1 ∷ 3 ∷ 7 ∷ [], 0, false)
  pub refused-count : says (table [] (server 2 0 5 2)) ≡ (1, 0 ∷ 0 ∷ 0 ∷ [], 0, false)
  pub refused-task : says (table (task 3 6 2 6 ∷ task 0 5 6 5 ∷ []) (server 2 0 5 2)) ≡ (2, 0 ∷ 0 ∷ 0 ∷ [], 0, false)
  pub refused-server : says (table (task 3 6 2 6 ∷ []) (server 5 0 5 2)) ≡ (3, 0 ∷ 0 ∷ 0 ∷ [], 0, false)
  -- slots past the tasks in use are 0
  pub slots-past : (admission_of (table three (server 0 3 0 0))).bounds ≡ 1 ∷ 3 ∷ 7 ∷ replicate (max_tasks - 3) 0
  pub refused-slots : (admission_of (table three (server 5 0 5 2))).bounds ≡ replicate max_tasks 0

pub admission_cases : AdmissionCases
unfolding overlay
admission_cases = record {
  three_deferrable_1_8_1 = refl;
  three_deferrable_2_8_2 = refl;
  three_polling_1_8_1 = refl;
  three_sporadic_0_8_2 = refl;
  three_background_3_0_0 = refl;
  three_polling_0_2_2 = refl;
  three_polling_3_9_5 = refl;
  three_deferrable_3_9_5 = refl;
  three_sporadic_3_9_5 = refl;
  tight_polling_2_10_2 = refl;
  tight_deferrable_2_10_2 = refl;
  tight_sporadic_2_10_2 = refl;
  tight_polling_1_10_2 = refl;
  three_returning_1_8_1 = refl;
  three_returning_3_9_5 = refl;
  refused-count = refl;
  refused-task = refl;
  refused-server = refl;
  slots-past = refl;
  refused-slots = refl;
}
