-- The law of supply of the simple sporadic server, where it is the only server: in L ticks it takes at most ceil(L/P) × B. Its budget
-- counts as given at the effective time te of its first service, or as soon as tasks above keep it from serving, and must then be used
-- in each tick that it is offered. Where no task is open at all its window ends.
use Rattle.std.specs.Prelude.{ℕ, suc, ◌+◌, ◌-◌, ◌*◌, ◌≤◌, ◌<◌, max, ◌≡◌, refl, Bool, true, false, cond, ◌&&◌, ◌||◌, not, ltb, eqb}
use Rattle.std.proofs.Common.{mul-le-mul_right, lt_of_mul-lt-mul_right, arith, sym, ltb-true, eqb-true, lt-ltb, ne_eqb}
use Rattle.lists.specs.Tests.{never, and_split}
use Rattle.lists.specs.Time.{ceil}
use Rattle.lists.specs.Count.{ceil-up}
use Rattle.server.specs.declared.Server.{Server}
use Rattle.server.specs.declared.Sporadic.{Sporadic}
use Rattle.server.specs.declared.ServerState.{ServerState}
use Rattle.server.specs.declared.Seen.{Seen}
use Rattle.server.specs.Kind.{sporadic}
use Rattle.server.specs.Sporadic.{refills, refilled, effective, fixed, first_served}
use Rattle.server.specs.Server.{fresh_server, replenish, eligible, consume, server_demand}
use Rattle.server.proofs.Account.{Bits, seen, After}

-- By the marks: it has served since tr; a task above was open in the last tick; any was. It was given its budget c times since `from`;
-- one that has not served while tasks above are open counts as given its budget already.
abbrev pub Held : Bool → Bool → Bool → ℕ → ℕ → ℕ → ℕ → ℕ → ℕ → Bool → ℕ → ℕ → ℕ → ℕ → ℕ → Type 0
Held true above true P B b tr bg nr late t from c g y =
    (g ≤ c * B) × (b ≤ y) × (from + c * P ≤ max nr t) × (from + c * P < t + P) × (late ≡ true → nr ≤ t) × (0 < t)
Held true above false P B b tr bg nr late t from c g y = (g ≤ c * B) × (from + c * P ≤ t) × (0 < t)
Held false false busy P B b tr bg nr late t from c g y = (g ≤ c * B) × (b ≤ B) × (from + c * P ≤ t)
Held false true true P B b tr bg nr late t from c g y =
    (g ≤ suc c * B) × (b ≤ B) × (B ≤ y) × (from + c * P ≤ max tr bg) × (max tr bg < t)
Held false true false P B b tr bg nr late t from c g y = ⊥

abbrev pub Spread : Server → ServerState → ℕ → ℕ → ℕ → ℕ → Type 0
Spread s x t from g y =
    (c : ℕ) × (0 < s.budget) × (x.sporadic.tr ≤ t) × (x.sporadic.begin ≤ t)
    × Held x.sporadic.served x.sporadic.above x.sporadic.busy s.period s.budget x.budget x.sporadic.tr x.sporadic.begin
    x.sporadic.nr x.sporadic.late t from c g y

restart : (s : Server) → 0 < s.period → (x : ServerState) (t from g y : ℕ) → Spread s x t from g y → y ≡ 0 → Spread s x t t 0 0
restart s p x t from g y h z = (0, h.1, h.2, h.3, go x.sporadic.served x.sporadic.above x.sporadic.busy h.4)
  where
    go : (a b c : Bool) → Held a b c s.period s.budget x.budget x.sporadic.tr x.sporadic.begin x.sporadic.nr x.sporadic.late t from
        h.0 g y →
        Held a b c s.period s.budget x.budget x.sporadic.tr x.sporadic.begin x.sporadic.nr x.sporadic.late t t 0 0 0
    go true b true k = (omega arith, omega (arith, k.1), omega arith, omega arith, k.4, k.5)
    go true b false k = (omega arith, omega arith, k.2)
    go false false c k = (omega arith, k.1, omega arith)
    go false true true k = absurd (omega (arith, h.1, k.2))
    go false true false k = absurd k

make : (s : Server) → 0 < s.period → (free took : Bool) (x : ServerState) (t from g y g' y' : ℕ) → Spread s x (suc t) from g' y' → y' + g ≤ y + g' →
    (free ≡ true → took ≡ true → y' + g < y + g') → (free ≡ true → 0 < y' → y' + g < y + g') → After (Spread s x (suc t)) true free took t from g y
make s p free took x t from g y g' y' a q u i = record {
  g' = g';
  y' = y';
  acc = λ _. a;
  again = λ e. restart s p x (suc t) from g' y' a e;
  calm = λ e. never e refl;
  pay = q;
  used = λ _. u;
  idle = i;
}

module _ (s : Server) (p : 0 < s.period) (b0 : 0 < s.budget) (w : Bits) where
  abbrev P : ℕ
  P = s.period

  abbrev B : ℕ
  B = s.budget

  abbrev marks : ℕ → ℕ → Bool → ℕ → Bool → Bool → Bool → Sporadic
  marks tr bg served nr late above busy = record { tr = tr; begin = bg; nr = nr; served = served; late = late; above = above; busy = busy }

  abbrev at : ℕ → ℕ → ℕ → Bool → ℕ → Bool → Bool → Bool → ServerState
  at b tr bg served nr late above busy = record { budget = b; sporadic = marks tr bg served nr late above busy }

  -- step 5 where the server takes the tick if it is offered
  abbrev step : Bool → Bool → Bool → ℕ → ServerState → ServerState
  step busy free took t v =
      consume sporadic s v (record { t = t; above = not free; busy = busy; serves = free && took; waited = w.waits; emptied = w.last })

  abbrev Tick : Bool → Bool → Bool → ServerState → ℕ → ℕ → ℕ → ℕ → Type 0
  Tick busy free took v t from g y = After (Spread s (step busy free took t v) (suc t)) busy free took t from g y

  -- no task is open: a new window begins
  quiet : (took : Bool) (b tr bg : ℕ) (served : Bool) (nr : ℕ) (late above busy : Bool) (t from g y : ℕ) → tr ≤ t → bg ≤ t → (served ≡ false → b ≤ B) →
      Tick false true took (at b tr bg served nr late above busy) t from g y
  quiet took b tr bg served nr late above busy t from g y h1 h2 k =
      record {
        g' = g;
        y' = 0;
        acc = λ q. never refl q;
        again = λ _. go took served refl;
        calm = λ _. refl;
        pay = omega arith;
        used = λ q. never refl q;
        idle = λ _ q. omega arith;
      }
    where
      first : (e : Bool) → eqb (effective (marks tr bg false nr late above busy) t + P) t ≡ e →
          Spread s (step false true true t (at b tr bg false nr late above busy)) (suc t) (suc t) 0 0
      first true e = rw (e, fixed) (0, b0, omega arith, omega arith, (omega arith, omega arith, omega arith))
      first false e = rw (e, fixed) (0, b0, omega arith, omega arith, (omega arith, omega arith, omega arith))

      go : (took a : Bool) → served ≡ a → Spread s (step false true took t (at b tr bg a nr late above busy)) (suc t) (suc t) 0 0
      go true true q = (0, b0, omega arith, omega arith, (omega arith, omega arith, omega arith))
      go false true q = (0, b0, omega arith, omega arith, (omega arith, omega arith, omega arith))
      go true false q = first (eqb (effective (marks tr bg false nr late above busy) t + P) t) refl
      go false false q = (0, b0, omega arith, omega arith, (omega arith, k q, omega arith))

  -- it has served since tr
  started : (free took : Bool) (b tr bg nr : ℕ) (late above busy : Bool) (t from c g y : ℕ) → (took ≡ true → 0 < b) → tr ≤ t → bg ≤ t → g ≤ c * B → b ≤ y →
      from + c * P ≤ max nr t → from + c * P < t + P → (late ≡ true → nr ≤ t) → Tick true free took (at b tr bg true nr late above busy) t from g y
  started false took b tr bg nr late above busy t from c g y some h1 h2 k0 k1 k2 k3 k4 =
      make s p false took (step true false took t (at b tr bg true nr late above busy)) t from g y g y
      (c, b0, omega arith, begun above, (k0, k1, omega arith, omega arith, λ e. omega (arith, k4 e), omega arith))
      (omega arith) (λ q. never refl q) (λ q. never refl q)
    where
      begun : (above : Bool) → cond (not above) t bg ≤ suc t
      begun true = omega arith
      begun false = omega arith
  started true true b tr bg nr late above busy t from c g y some h1 h2 k0 k1 k2 k3 k4 =
      make s p true true (step true true true t (at b tr bg true nr late above busy)) t from g y g (y - 1)
      (c, b0, omega arith, omega arith, (k0, omega arith, omega arith, omega arith, λ e. omega (arith, k4 e), omega arith))
      (omega arith) (λ _ q. omega (arith, some q)) (λ _ q. omega arith)
  started true false b tr bg nr late above busy t from c g y some h1 h2 k0 k1 k2 k3 k4 =
      make s p true false (step true true false t (at b tr bg true nr late above busy)) t from g y g (y - 1)
      (c, b0, omega arith, omega arith, (k0, omega arith, omega arith, omega arith, λ e. omega (arith, k4 e), omega arith))
      (omega arith) (λ _ q. never refl q) (λ _ q. omega arith)

  -- the first service, where te is its effective time
  firstly : (b tr bg nr : ℕ) (late above busy : Bool) (t from c g' y' : ℕ) → tr ≤ t → bg ≤ t → effective (marks tr bg false nr late above busy) t ≤ t →
      from + c * P ≤ effective (marks tr bg false nr late above busy) t → g' ≤ suc c * B → b - 1 ≤ y' →
      Spread s (step true true true t (at b tr bg false nr late above busy)) (suc t) from g' y'
  firstly b tr bg nr late above busy t from c g' y' h1 h2 h3 k0 k1 k2 = go (eqb (effective (marks tr bg false nr late above busy) t + P) t) refl
    where
      go : (e : Bool) → eqb (effective (marks tr bg false nr late above busy) t + P) t ≡ e →
          Spread s (step true true true t (at b tr bg false nr late above busy)) (suc t) from g' y'
      go true e = rw (e, fixed) (suc c, b0, omega arith, omega arith, (k1, k2, omega (arith, eqb-true _ t e), omega arith, λ q. never refl q, omega arith))
      go false e = rw (e, fixed) (suc c, b0, omega arith, omega arith, (k1, k2, omega arith, omega arith, λ q. omega (arith, ltb-true _ t q), omega arith))

  -- it has not served, and would be replenished at t
  waiting : (free took : Bool) (b tr bg nr : ℕ) (late above busy : Bool) (t from c g y : ℕ) → tr ≤ t → bg ≤ t → (above ≡ true → max tr bg ≡ t) →
      g ≤ c * B → b ≤ B → from + c * P ≤ t → Tick true free took (at b tr bg false nr late above busy) t from g y
  waiting false took b tr bg nr late above busy t from c g y h1 h2 h3 k0 k1 k2 =
      make s p false took (step true false took t (at b tr bg false nr late above busy)) t from g y (g + B) B
      (c, b0, omega arith, omega (arith, kept above h3), (omega arith, k1, omega arith, omega (arith, kept above h3), omega (arith, kept above h3)))
      (omega arith) (λ q. never refl q) (λ q. never refl q)
    where
      kept : (above : Bool) → (above ≡ true → max tr bg ≡ t) → max tr (cond (not above) t bg) ≡ t
      kept true e = e refl
      kept false e = omega arith
  waiting true true b tr bg nr late above busy t from c g y h1 h2 h3 k0 k1 k2 =
      make s p true true (step true true true t (at b tr bg false nr late above busy)) t from g y (g + B) (B - 1)
      (firstly b tr bg nr late above busy t from c (g + B) (B - 1) h1 h2 (omega (arith, now above h3)) (omega (arith, now above h3)) (omega arith)
      (omega arith))
      (omega arith) (λ _ _. omega arith) (λ _ q. omega arith)
    where
      now : (above : Bool) → (above ≡ true → max tr bg ≡ t) → effective (marks tr bg false nr late above busy) t ≡ t
      now true e = omega (arith, e refl)
      now false e = omega arith
  waiting true false b tr bg nr late above busy t from c g y h1 h2 h3 k0 k1 k2 =
      make s p true false (step true true false t (at b tr bg false nr late above busy)) t from g y g 0 (c, b0, omega arith, omega arith, (k0, k1, omega arith))
      (omega arith) (λ _ q. never refl q) (λ _ q. omega arith)

  -- it has not served, and tasks above were open since max tr begin
  delayed : (free took : Bool) (b tr bg nr : ℕ) (late busy : Bool) (t from c g y : ℕ) → (took ≡ true → 0 < b) → tr ≤ t → bg ≤ t → g ≤ suc c * B → b ≤ B →
      B ≤ y →
      from + c * P ≤ max tr bg → Tick true free took (at b tr bg false nr late true busy) t from g y
  delayed false took b tr bg nr late busy t from c g y some h1 h2 k0 k1 k2 k3 =
      make s p false took (step true false took t (at b tr bg false nr late true busy)) t from g y g y
      (c, b0, omega arith, omega arith, (k0, k1, k2, k3, omega arith)) (omega arith) (λ q. never refl q) (λ q. never refl q)
  delayed true true b tr bg nr late busy t from c g y some h1 h2 k0 k1 k2 k3 =
      make s p true true (step true true true t (at b tr bg false nr late true busy)) t from g y g (y - 1)
      (firstly b tr bg nr late true busy t from c g (y - 1) h1 h2 (omega arith) (omega arith) k0 (omega arith))
      (omega arith) (λ _ _. omega (arith, some refl)) (λ _ q. omega arith)
  delayed true false b tr bg nr late busy t from c g y some h1 h2 k0 k1 k2 k3 =
      make s p true false (step true true false t (at b tr bg false nr late true busy)) t from g y (g - B) 0
      (c, b0, omega arith, omega arith, (omega arith, k1, omega arith)) (omega arith) (λ _ q. never refl q) (λ _ q. omega arith)

-- ---- step 3: where it is replenished though tasks were open, its time has come; and it is where a task opens after a tick with none
refill-due : (x : Sporadic) (b t : ℕ) → refills x b t true ≡ true → x.busy ≡ true → (x.late ≡ true → x.nr ≤ t) → x.nr ≤ t
refill-due x b t e o h = go (eqb x.nr t) refl x.late h x.busy o x.served (ltb 0 t) (eqb b 0) e
  where
    go : (came : Bool) → eqb x.nr t ≡ came → (late : Bool) → (late ≡ true → x.nr ≤ t) → (busy : Bool) → busy ≡ true → (served later spent : Bool) →
        ((served && came && not late) || (late && spent) || (true && later && not busy)) ≡ true → x.nr ≤ t
    go true q late h busy o served later spent e = omega (arith, eqb-true x.nr t q)
    go false q true h busy o served later spent e = h refl
    go false q false h false o served later spent e = never refl o
    go false q false h true o true true spent e = never refl e
    go false q false h true o true false spent e = never refl e
    go false q false h true o false true spent e = never refl e
    go false q false h true o false false spent e = never refl e

refill_opens : (x : Sporadic) (b t : ℕ) → refills x b t true ≡ false → 0 < t → x.busy ≡ true
refill_opens x b t e h = go x.busy (ltb 0 t) (lt-ltb 0 t h) ((x.served && eqb x.nr t && not x.late) || (x.late && eqb b 0)) e
  where
    go : (busy later : Bool) → later ≡ true → (other : Bool) → (other || (true && later && not busy)) ≡ false → busy ≡ true
    go true later q other e = refl
    go false false q other e = never refl q
    go false true q true e = sym e
    go false true q false e = sym e

pub sporadic_next : (s : Server) → 0 < s.period → (busy free : Bool) (w : Bits) (t from g y : ℕ) (x : ServerState) → (free ≡ false → busy ≡ true) →
    Spread s x t from g y →
    let v : ServerState = replenish sporadic s x t busy in
    After (Spread s (consume sporadic s v (seen t busy free w v)) (suc t)) busy free (eligible w.waits v) t from g y
sporadic_next s p busy free w t from g y x f h = go busy f (refills x.sporadic b t busy) refl
  where
    b : ℕ
    b = x.budget

    z : Sporadic
    z = x.sporadic

    Goal : Bool → ServerState → Type 0
    Goal busy v = Tick s p h.1 w busy free (eligible w.waits v) v t from g y

    takes : (n : ℕ) → w.waits && ltb 0 n ≡ true → 0 < n
    takes n q = ltb-true 0 n (and_split w.waits (ltb 0 n) q).1

    -- it is replenished at t
    anew : (served above busy late : Bool) → Held served above busy s.period s.budget b z.tr z.begin z.nr late t from h.0 g y →
        (served ≡ true → busy ≡ true → (late ≡ true → z.nr ≤ t) → z.nr ≤ t) → Goal true (at s p h.1 w s.budget t z.begin false 0 false above busy)
    anew true above true late k why =
        waiting s p h.1 w free _ s.budget t z.begin 0 false above true t from h.0 g y (omega arith) h.3 (λ _. omega (arith, h.3)) k.0
        (omega arith)
        (omega (arith, k.2, why refl refl k.4))
    anew true above false late k why =
        waiting s p h.1 w free _ s.budget t z.begin 0 false above false t from h.0 g y (omega arith) h.3 (λ _. omega (arith, h.3)) k.0
        (omega arith) k.1
    anew false false busy late k why =
        waiting s p h.1 w free _ s.budget t z.begin 0 false false busy t from h.0 g y (omega arith) h.3 (λ _. omega (arith, h.3)) k.0
        (omega arith) k.2
    anew false true true late k why =
        delayed s p h.1 w free _ s.budget t z.begin 0 false true t from h.0 g y (takes s.budget) (omega arith) h.3 k.0 (omega arith) k.2
        (omega (arith, k.3, k.4))
    anew false true false late k why = absurd k

    -- it is not
    on : (served above busy : Bool) → Held served above busy s.period s.budget b z.tr z.begin z.nr z.late t from h.0 g y →
        (0 < t → busy ≡ true) →
        Goal true (at s p h.1 w b z.tr z.begin served z.nr z.late above busy)
    on true above true k q =
        started s p h.1 w free _ b z.tr z.begin z.nr z.late above true t from h.0 g y (takes b) h.2 h.3 k.0 k.1 k.2 k.3
        k.4
    on true above false k q = never refl (q k.2)
    on false false busy k q =
        waiting s p h.1 w free _ b z.tr z.begin z.nr z.late false busy t from h.0 g y h.2 h.3 (λ e. never refl e) k.0 k.1 k.2
    on false true true k q =
        delayed s p h.1 w free _ b z.tr z.begin z.nr z.late true t from h.0 g y (takes b) h.2 h.3 k.0 k.1 k.2 k.3
    on false true false k q = absurd k

    calm : (served above busy : Bool) → Held served above busy s.period s.budget b z.tr z.begin z.nr z.late t from h.0 g y → served
        ≡ false → b ≤ s.budget
    calm true above busy k q = never q refl
    calm false false busy k q = k.1
    calm false true true k q = k.1
    calm false true false k q = absurd k

    -- no task is open
    none : (free : Bool) → (free ≡ false → false ≡ true) → (d : Bool) →
        let v : ServerState = cond d (refilled s.budget t z) x in
        Tick s p h.1 w false free (eligible w.waits v) v t from g y
    none false q d = never refl (q refl)
    none true q true = quiet s p h.1 w _ s.budget t z.begin false 0 false z.above z.busy t from g y (omega arith) h.3 (λ _. omega arith)
    none true q false =
        quiet s p h.1 w _ b z.tr z.begin z.served z.nr z.late z.above z.busy t from g y h.2 h.3
        (calm z.served z.above z.busy h.4)

    go : (busy : Bool) → (free ≡ false → busy ≡ true) → (d : Bool) → refills z b t busy ≡ d → Goal busy (cond d (refilled s.budget t z) x)
    go false f d e = none free f d
    go true f true e = anew z.served z.above z.busy z.late h.4 (λ _ o l. refill-due z b t e o l)
    go true f false e = on z.served z.above z.busy h.4 (refill_opens z b t e)

pub sporadic_supply : (s : Server) → 0 < s.period → (x : ServerState) (t from g y n : ℕ) → Spread s x t from g y → t ≤ from + n → g ≤ server_demand sporadic s n
sporadic_supply s p x t from g y n h b = go z.served z.above z.busy h.4
  where
    z : Sporadic
    z = x.sporadic

    P : ℕ
    P = s.period

    up : n ≤ ceil n P * P
    up = ceil-up n P p

    less : (a : ℕ) → a * P < suc (ceil n P) * P → a * s.budget ≤ ceil n P * s.budget
    less a q = mul-le-mul_right s.budget (omega (arith, lt_of_mul-lt-mul_right P q))

    go : (a r l : Bool) → Held a r l P s.budget x.budget z.tr z.begin z.nr z.late t from h.0 g y → g ≤ server_demand sporadic s n
    go true r true k = omega (arith, k.0, less h.0 (omega (arith, k.3, up)))
    go true r false k = omega (arith, k.0, less h.0 (omega (arith, k.1, up)))
    go false false l k = omega (arith, k.0, less h.0 (omega (arith, k.2, up)))
    go false true true k = omega (arith, k.0, less (suc h.0) (omega (arith, k.3, k.4, up)))
    go false true false k = absurd k

pub sporadic_fresh : (s : Server) → 0 < s.budget → Spread s (fresh_server sporadic s) 0 0 0 0
sporadic_fresh s h = (0, h, omega arith, omega arith, (omega arith, omega arith, omega arith))

-- ---- and it does not come late: a server that tasks above kept from serving since max(tr, begin) is replenished P after that
effective_prompt : (x : Sporadic) (t : ℕ) → x.above ≡ true → effective x t ≤ max x.tr x.begin
effective_prompt x t h = rw h (omega arith)

pub sporadic_prompt : (s : Server) (e : Seen) (x : Sporadic) → e.serves ≡ true → x.served ≡ false → x.above ≡ true →
    (effective x e.t + s.period ≡ e.t → ⊥) →
    (first_served s e x).nr ≤ max x.tr x.begin + s.period
sporadic_prompt s e x serves first above other =
    rw (serves, first, ne_eqb (effective x e.t + s.period) e.t other) (omega (arith, effective_prompt x e.t above))
