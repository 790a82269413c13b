-- Induction over everything that can happen: from what is owed of each call, of power and of a new disk, the invariant
-- stands always; and so the promises follow.
use Rattle.std.proofs.Common.{◌≡◌, ℕ, suc, ◌≤◌, Bool, true, false, ◌&&◌, eqb, ltb, List, [], ◌∷◌, map, length, get_or, sym, refl, ap, ◌∙◌, subst, ⊎_elim, zero-le, arith}
use mathlib.Core.Path.{subst₃}
use mathlib.Core.List.{cons≢nil}
use Rattle.std.proofs.lemmas.Bool.{and_parts, false≢true}
use Rattle.model.specs.Tree.{Tree}
use Rattle.model.specs.Calls.{Call, Answer, readable, bytes}
use Rattle.model.specs.Refusals.{Limits}
use Rattle.model.specs.Fs.{Fs, new_fs, answer, after, lost, chosen}
use Rattle.model.specs.World.{put_block, keep_all, Act, Disk, did, did_all, seen, Lived, World, Under, Happening, was_told, cut}
use Rattle.model.specs.World.{blocks_for, Fit, new, begins, one_done, answered, power, power_again, mended}
use Rattle.model.specs.Promise.{all_readable, GoodLimits, good_acts, all_below, under_readable, ComesToAnEnd, StaysSmall, at_first}
use Rattle.model.specs.Promise.{told, cut_late, cut_early, gone, Explains, Right}
use Rattle.model_facts.proofs.Cells.{nth_one}
use Rattle.machine.specs.State.{Sized, State}
use Rattle.machine.specs.Program.{Encoding, wakes, program, state_says, state_does, state_next}
use Rattle.machine.proofs.Counting.{length-marks}
use Rattle.machine.proofs.Invariant.{Laws, Idle, SomeSafe, SomeIdle, Busy, CallsGo, PowerGoes, held_cells, at, SmallMem}

pub chosen_twice : (g h : ℕ → ℕ) (k i : ℕ) (d : Disk) → chosen h i (chosen g k d) ≡ chosen g k d
unfolding chosen
chosen_twice g h k i [] = refl
chosen_twice g h k i (c ∷ cs) = rw (nth_one (get_or (c.now ∷ c.maybe) (g k) c.now) (h i), chosen_twice g h (suc k) (suc i) cs)

pub good_tail : (n : ℕ) (x : Act) (xs : List Act) → good_acts n (x ∷ xs) ≡ true → good_acts n xs ≡ true
unfolding good_acts
good_tail n (put_block j b) xs h = (and_parts (ltb j n && (eqb (length b) 4096 && bytes b)) (good_acts n xs) h).1
good_tail n keep_all xs h = h

abbrev pub NewGoes : (k : Encoding) (Fits : Limits → Tree → Type 0) → Type 0
NewGoes k Fits = (l : Limits) (d : Disk) → Sized l → Fit l d → let e : Disk = did_all ((program k).makes l) d in
    SomeIdle k Fits l new_fs e (wakes k l (seen e))

-- what a state has of which nothing is under way
pub held_long : (k : Encoding) (Fits : Limits → Tree → Type 0) (l : Limits) (s : Fs) (d : Disk) (st : State) (m : List ℕ) →
    Idle k Fits l s d st m → length st.held ≡ l.room
held_long k Fits l s d st m i = ap length i.held_bits ∙ length-marks l.room 0 (map (at m) (held_cells s))

pub older_few : (k : Encoding) (Fits : Limits → Tree → Type 0) (l : Limits) (s : Fs) (d : Disk) (st : State) (m : List ℕ) →
    Idle k Fits l s d st m → st.older ≤ l.pending
older_few k Fits l s d st m i = subst (λ (n : ℕ). n ≤ l.pending) (sym i.older_is) i.few

-- how things stand: power gone; nothing under way; a call under way
abbrev pub Now : (k : Encoding) (Fits : Limits → Tree → Type 0) → Limits → Fs → Disk → List ℕ → Bool → List Act → List Under → Type 0
Now k Fits l s d mem false todo us = (todo ≡ []) × (us ≡ []) × ((g : ℕ → ℕ) → chosen g 0 d ≡ d) ×
    SomeIdle k Fits l s d (wakes k l (seen d))
Now k Fits l s d mem true todo [] = (todo ≡ []) × ((st : State) × (mem ≡ k.encode l st) × SomeIdle k Fits l s d st)
Now k Fits l s d mem true todo (u ∷ us) = (us ≡ []) × (readable u.call ≡ true → (st : State) × (u.memory ≡ k.encode l st) ×
    (u.answer ≡ answer l s u.call) × Busy k Fits l s (after l s u.call) d todo st)

abbrev pub Good : (k : Encoding) (Fits : Limits → Tree → Type 0) → Limits → World → Type 0
Good k Fits l w = (s : Fs) × Explains l w.past s × SmallMem l w.memory × Now k Fits l s w.disk w.memory w.up w.todo
    w.under

-- the same, by what is known of the world
pub turn : (k : Encoding) (Fits : Limits → Tree → Type 0) (l : Limits) (s : Fs) (v : World) (up : Bool) (todo : List Act)
    (us : List Under) → v.up ≡ up → v.todo ≡ todo → v.under ≡ us →
    Now k Fits l s v.disk v.memory v.up v.todo v.under → Now k Fits l s v.disk v.memory up todo us
turn k Fits l s v up todo us p q r n =
    subst₃ (λ (x : Bool) (y : List Act) (z : List Under). Now k Fits l s v.disk v.memory x y z) p q r n

pub cut_readable : (us : List Under) (hs : List Happening) → all_readable (cut us hs) ≡ true → all_readable hs ≡ true
unfolding cut all_readable
cut_readable [] hs ar = ar
cut_readable (u ∷ us) hs ar = (and_parts (readable u.call) (all_readable hs) ar).1

module _ (k : Encoding) (Fits : Limits → Tree → Type 0) (calls_go : CallsGo k Fits) (power_goes : PowerGoes k Fits)
    (new_goes : NewGoes k Fits)
    (dec_enc : (l : Limits) (s : Fs) (d : Disk) (st : State) (m : List ℕ) → Sized l → Idle k Fits l s d st m →
    k.decode l (k.encode l st) ≡ st)
    (mem_small : (l : Limits) (s : Fs) (d : Disk) (st : State) (m : List ℕ) → Sized l → Idle k Fits l s d st m →
    SmallMem l (k.encode l st))
    (l : Limits) (gl : Sized l) where
  none_small : SmallMem l []
  unfolding all_below
  none_small = (zero-le, refl)

  -- a call begins
  step_begins : (s : Fs) (d : Disk) (mem : List ℕ) (up : Bool) (todo : List Act) (us : List Under) (c : Call) →
      Now k Fits l s d mem up todo us → up ≡ true → us ≡ [] →
      readable c ≡ true → (st : State) × (k.encode l (state_next k l (k.decode l mem) c) ≡ k.encode l st) ×
      (state_says l (k.decode l mem) (seen d) c ≡ answer l s c) ×
      Busy k Fits l s (after l s c) d (state_does k l (k.decode l mem) c) st
  step_begins s d mem false todo us c n e f rd = absurd (false≢true e)
  step_begins s d mem true todo (u ∷ us) c n e f rd = absurd (cons≢nil f)
  step_begins s d mem true todo [] c n e f rd =
      let st : State = n.1.0 in
      let mem_is : mem ≡ k.encode l st = n.1.1 in
      let m : List ℕ = n.1.2.0 in
      let idle : Idle k Fits l s d st m = n.1.2.1 in
      let same : k.decode l mem ≡ st = ap (k.decode l) mem_is ∙ dec_enc l s d st m gl idle in
      let go = calls_go l s d st m c gl idle rd in (
        state_next k l st c,
        ap (λ (x : State). k.encode l (state_next k l x c)) same,
        ap (λ (x : State). state_says l x (seen d) c)
            same ∙ go.0,
        subst (λ (x : State). Busy k Fits l s (after l s c) d (state_does k l x c) (state_next k l st c)) (sym same) go.1,
      )

  -- one act is done
  step_one : (s : Fs) (d : Disk) (mem : List ℕ) (up : Bool) (x : Act) (xs : List Act) (us : List Under) →
      Now k Fits l s d mem up (x ∷ xs) us → Now k Fits l s (did x d) mem up xs us
  unfolding did_all
  step_one s d mem false x xs us n = absurd (cons≢nil n.0)
  step_one s d mem true x xs [] n = absurd (cons≢nil n.0)
  step_one s d mem true x xs (u ∷ us) n = (
    n.0,
    λ rd. let b = n.1 rd in (
      b.0,
      b.1,
      b.2,
      record {
        ends = b.3.ends;
        short = let q = b.3.short in omega arith;
        good =
            good_tail (blocks_for l) x xs b.3.good;
        fronts = λ i. b.3.fronts (suc i);
      },
    ),
  )

  -- a call is answered
  step_answered : (s : Fs) (d : Disk) (mem : List ℕ) (hs : List Happening) (u : Under) → Explains l hs s →
      Now k Fits l s d mem true [] (u ∷ []) → readable u.call ≡ true →
      Good k Fits l (record {
        disk = d;
        memory = u.memory;
        up = true;
        todo = [];
        under = [];
        past =
            was_told u.call u.answer ∷ hs;
      })
  unfolding did_all
  step_answered s d mem hs u ex n rd =
      let b = n.1 rd in (
        after l s u.call,
        subst (λ (a : Answer). Explains l (was_told u.call a ∷ hs) (after l s u.call)) (sym b.2)
            (told u.call ex),
        subst (SmallMem l) (sym b.1) (mem_small l (after l s u.call) d b.0 b.3.ends.0 gl b.3.ends.1),
        (refl, (b.0, b.1, b.3.ends)),
      )

  -- power goes
  gone_down : (s : Fs) (d : Disk) (g : ℕ → ℕ) (mem : List ℕ) → SomeSafe k Fits l s d →
      (h : ℕ → ℕ) × Now k Fits l (lost (length s.older) h s) (chosen g 0 d) mem false [] []
  gone_down s d g mem sf =
      let p = power_goes l s d sf.0 sf.1 g gl sf.2 in
      (p.0, (refl, refl, (λ h. chosen_twice g h 0 0 d), (p.1, p.2)))

  gone_left : (s : Fs) (d : Disk) (g : ℕ → ℕ) (mem : List ℕ) → SomeSafe k Fits l s (chosen g 0 d) →
      (h : ℕ → ℕ) × Now k Fits l (lost (length s.older) h s) (chosen g 0 d) mem false [] []
  gone_left s d g mem sf =
      let p = gone_down s (chosen g 0 d) g mem sf in
      (p.0, subst (λ (e : Disk). Now k Fits l (lost (length s.older) p.0 s) e mem false [] []) (chosen_twice g g 0 0 d) p.1)

  step_power : (s : Fs) (d : Disk) (mem : List ℕ) (todo : List Act) (us : List Under) (hs : List Happening) (g : ℕ → ℕ) →
      Explains l hs s → Now k Fits l s d mem true todo us →
      all_readable (cut us hs) ≡ true →
      Good k Fits l (record { disk = chosen g 0 d; memory = []; up = false; todo = []; under = []; past = cut us hs })
  unfolding cut all_readable did_all
  step_power s d mem todo [] hs g ex n ar =
      let i = n.1.2 in
      let p = gone_down s d g [] (i.1.root, i.0, i.1.safe) in
      (lost (length s.older) p.0 s, gone (length s.older) p.0 ex, none_small, p.1)
  step_power s d mem todo (u ∷ us) hs g ex n ar =
      let b = n.1 (and_parts (readable u.call) (all_readable hs) ar).0 in
      ⊎_elim
      (λ sf. let p = gone_left s d g [] sf in
      (lost (length s.older) p.0 s, cut_early u.call (length s.older) p.0 ex, none_small, p.1))
      (λ sf. let t : Fs = after l s u.call in
      let p = gone_left t d g [] sf in
      (lost (length t.older) p.0 t, cut_late u.call (length t.older) p.0 ex, none_small, p.1))
      (b.3.fronts 0 g)

  step_mended : (s : Fs) (d : Disk) (mem : List ℕ) (todo : List Act) (us : List Under) → Now k Fits l s d mem false todo us →
      Now k Fits l s d (k.encode l (wakes k l (seen d))) true [] []
  step_mended s d mem todo us n = (refl, (wakes k l (seen d), refl, n.3))

  pub good : (w : World) → Lived (program k) l w → all_readable w.past ≡ true → Good k Fits l w
  unfolding all_readable
  good w (new d fit whole) ar = let i = new_goes l d gl fit in (
    new_fs,
    at_first,
    mem_small l new_fs (did_all ((program k).makes l) d) (wakes k l (seen (did_all ((program k).makes l) d)))
        i.0 gl i.1,
    (refl, (wakes k l (seen (did_all ((program k).makes l) d)), refl, i)),
  )
  good w (begins {w = v} c lv up todo under) ar =
      let g = good v lv ar in
      (g.0, g.1, g.2, (refl, step_begins g.0 v.disk v.memory v.up v.todo v.under c g.3 up under))
  good w (one_done {w = v} x xs lv todo) ar =
      let g = good v lv ar in (
        g.0,
        g.1,
        g.2,
        step_one g.0 v.disk v.memory v.up x xs v.under
            (subst (λ (z : List Act). Now k Fits l g.0 v.disk v.memory v.up z v.under) todo g.3),
      )
  good w (answered {w = v} u lv up todo under) ar =
      let ps = and_parts (readable u.call) (all_readable v.past) ar in
      let g = good v lv ps.1 in
      step_answered g.0 v.disk v.memory v.past u g.1 (turn k Fits l g.0 v true [] (u ∷ []) up todo under g.3) ps.0
  good w (power {w = v} f lv up) ar =
      let g = good v lv (cut_readable v.under v.past ar) in
      step_power g.0 v.disk v.memory v.todo v.under v.past f g.1
      (turn k Fits l g.0 v true v.todo v.under up refl refl g.3) ar
  good w (power_again {w = v} f lv up) ar =
      let g = good v lv ar in
      let n = turn k Fits l g.0 v false v.todo v.under up refl refl g.3 in
      (g.0, g.1, none_small, subst (λ (e : Disk). Now k Fits l g.0 e [] false [] []) (sym (n.2 f)) (refl, refl, n.2, n.3))
  good w (mended {w = v} lv up todo) ar =
      let g = good v lv ar in
      let n = turn k Fits l g.0 v false v.todo v.under up refl refl g.3 in (
        g.0,
        g.1,
        mem_small l g.0 v.disk (wakes k l (seen v.disk)) n.3.0 gl n.3.1,
        step_mended g.0 v.disk
            v.memory v.todo v.under n,
      )

-- the promises, from what is owed of calls, of power and of a new disk
module _ (k : Encoding) (Fits : Limits → Tree → Type 0) (laws : Laws k Fits) (calls_go : CallsGo k Fits)
    (power_goes : PowerGoes k Fits) (new_goes : NewGoes k Fits) (can : ℕ → Bool) where
  dec_enc : (l : Limits) (s : Fs) (d : Disk) (st : State) (m : List ℕ) → Sized l → Idle k Fits l s d st m →
      k.decode l (k.encode l st) ≡ st
  dec_enc l s d st m gl i =
      laws.dec_enc l st gl i.tree_fits (older_few k Fits l s d st m i) (held_long k Fits l s d st m i) i.fresh_long
      i.journal_fits i.journal_ok

  mem_small : (l : Limits) (s : Fs) (d : Disk) (st : State) (m : List ℕ) → Sized l → Idle k Fits l s d st m → SmallMem l (k.encode l st)
  mem_small l s d st m gl i = laws.enc_small l st i.root.base gl i.safe.base_fits i.base_is i.tree_fits
      (older_few k Fits l s d st m i) (held_long k Fits l s d st m i) i.fresh_long i.journal_fits i.journal_ok

  sized : (l : Limits) → GoodLimits can l → Sized l
  sized l gl = (gl.0, gl.1, gl.2, gl.3, gl.4)

  pub all_good : (l : Limits) (w : World) → GoodLimits can l → Lived (program k) l w → all_readable w.past ≡ true → Good k Fits l w
  all_good l w gl lv ar = good k Fits calls_go power_goes new_goes dec_enc mem_small l (sized l gl) w lv ar

  pub right_by : Right can (program k)
  unfolding Right
  right_by l w gl lv ar = let g = all_good l w gl lv ar in (g.0, g.1)

  pub ends_by : ComesToAnEnd can (program k)
  unfolding ComesToAnEnd
  ends_by l w gl lv ar = (
    zero-le,
    λ c rd up todo under. let g = all_good l w gl lv ar in
        (step_begins k Fits calls_go power_goes new_goes dec_enc mem_small l (sized l gl) g.0 w.disk w.memory w.up w.todo
        w.under c g.3 up under rd).3.short,
  )

  todo_good : (l : Limits) (s : Fs) (d : Disk) (mem : List ℕ) (up : Bool) (todo : List Act) (us : List Under) →
      Now k Fits l s d mem up todo us → under_readable us ≡ true → good_acts (blocks_for l) todo ≡ true
  unfolding good_acts under_readable
  todo_good l s d mem false todo us n ur = ap (good_acts (blocks_for l)) n.0
  todo_good l s d mem true todo [] n ur = ap (good_acts (blocks_for l)) n.0
  todo_good l s d mem true todo (u ∷ us) n ur = (n.1 (and_parts (readable u.call) (under_readable us) ur).0).3.good

  pub small_by : StaysSmall can (program k)
  unfolding StaysSmall
  small_by l w gl lv ar ur = let g = all_good l w gl lv ar in
      (g.2.0, g.2.1, todo_good l g.0 w.disk w.memory w.up w.todo w.under g.3 ur)
