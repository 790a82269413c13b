-- How far down a tree goes: one level less from each entry; and never further than there are nodes, in a tree that fits, since
-- there every node has one depth.
use Rattle.std.proofs.Common.{◌≡◌, ℕ, zero, suc, ◌+◌, ◌-◌, ◌<◌, ◌≤◌, true, ltb, leb, List, [], ◌∷◌, length, get_or, sym, refl, ap, subst, inl, inr, ⊎_elim, arith}
use Rattle.std.proofs.lemmas.Bool.{and_parts, ltb-true, leb-true, cases_Bool}
use Rattle.model.specs.Tree.{Entry, Node, Tree, some_of, body_of, entries}
use Rattle.model.specs.Refusals.{Limits}
use Rattle.model.specs.Fs.{no_entry}
use Rattle.model.specs.Laws.{Lawful}
use Rattle.laws.proofs.Totals.{none, total}
use Rattle.laws.proofs.Entries.{at_same, at_other, sum, of_id}
use Rattle.laws.proofs.Sound.{with_id, at_cases, id_found}
use Rattle.laws.proofs.Paths.{Reach, below, depth}
use Rattle.laws.proofs.Depth.{shallow}
use Rattle.laws.proofs.Reach.{Good}
use Rattle.laws.proofs.Lawfuls.{Ids, good_of}
use Rattle.machine.specs.Fits.{Fits, every, ok_node, ok_entry, rising}
use Rattle.lookup.specs.Levels.{Shallow}

-- where there is an entry, there is a level, and one less from it
pub some_level : (n : ℕ) (t : Tree) (i k : ℕ) → Shallow n t i → k < length (entries (body_of t i)) → 1 ≤ n
unfolding Shallow
some_level zero t i k s lt = absurd (omega (arith, ap length s))
some_level (suc n) t i k s lt = omega arith

pub next_level : (n : ℕ) (t : Tree) (i k x : ℕ) → Shallow n t i → k < length (entries (body_of t i)) →
    x ≡ (get_or (entries (body_of t i)) k no_entry).id → Shallow (n - 1) t x
unfolding Shallow
next_level zero t i k x s lt e = absurd (omega (arith, ap length s))
next_level (suc n) t i k x s lt e =
    let z : n ≡ suc n - 1 = omega arith in
    subst (λ m. Shallow m t x) z (subst (λ y. Shallow n t y) (sym e) (s k lt))

-- from what has no entries nothing goes down
no_level : (n : ℕ) (t : Tree) (i : ℕ) → entries (body_of t i) ≡ [] → Shallow n t i
unfolding Shallow
no_level zero t i e = e
no_level (suc n) t i e = λ k lt. absurd (omega (arith, ap length e))

-- an entry is in its directory
entry_in : (es : List Entry) (k : ℕ) → k < length es → 0 < of_id (get_or es k no_entry).id es
unfolding sum
entry_in [] k lt = absurd (omega arith)
entry_in (e ∷ es) zero lt = omega (arith, at_same e.id)
entry_in (e ∷ es) (suc k) lt = omega (arith, entry_in es k (omega arith))

none_here : (es : List Entry) → ((k : ℕ) → k < length es → ⊥) → es ≡ []
none_here [] f = refl
none_here (e ∷ es) f = absurd (f 0 (omega arith))

-- ids are apart, since they ascend, and below the next one
rising_once : (low k : ℕ) (ts : List Node) → rising low ts ≡ true → (with_id k ts ≤ 1) × (k < low → with_id k ts ≡ 0)
unfolding rising total
rising_once low k [] h = (omega arith, λ p. refl)
rising_once low k (t ∷ ts) h =
    let p = and_parts (leb low t.id) (rising (suc t.id) ts) h in
    let q = leb-true low t.id p.0 in
    let (r, s) = rising_once (suc t.id) k ts p.1 in
    ⊎_elim (λ z. (omega arith, λ lt. omega (arith, s (omega arith))))
    (λ z. (omega (arith, s (omega arith)), λ lt. absurd (omega arith))) (at_cases k t.id)

ok_low : (n k : ℕ) (ts : List Node) → every (ok_node n) ts ≡ true → n ≤ k → with_id k ts ≡ 0
unfolding every total
ok_low n k [] h le = refl
ok_low n k (t ∷ ts) h le =
    let p = and_parts (ok_node n t) (every (ok_node n) ts) h in
    let q = ltb-true t.id n (and_parts (ltb t.id n) (every (ok_entry n) (entries (t.body ∷ []))) p.0).0 in
    omega (arith, at_other k t.id (λ e. omega arith), ok_low n k ts p.1 le)

ids_of : (l : Limits) (t : Tree) → Fits l t → Ids t
ids_of l t f = record { once = λ k. (rising_once 0 k t.nodes f.ascend).0; low = λ k. ok_low t.next k t.nodes f.ok }

module _ (t : Tree) (g : Good t) where
  -- what is reached by so many steps has so many levels left
  from_reached : (n i : ℕ) (r : Reach t.nodes i) → length t.nodes ≤ depth r + suc n → Shallow n t i
  unfolding Shallow depth
  from_reached zero i r le =
      none_here (entries (body_of t i)) (λ k lt.
      let x : ℕ = (get_or (entries (body_of t i)) k no_entry).id in
      omega (arith, shallow t.next t.nodes g.0 x (below i x r (entry_in (entries (body_of t i)) k lt))))
  from_reached (suc n) i r le = λ k lt.
      let x : ℕ = (get_or (entries (body_of t i)) k no_entry).id in
      from_reached n x (below i x r (entry_in (entries (body_of t i)) k lt)) (omega arith)

  from_any : (i : ℕ) → Shallow (length t.nodes) t i
  unfolding entries
  from_any i =
      elim (cases_Bool (some_of (body_of t i))) [
        | inl h ↦ from_reached (length t.nodes) i (g.1 i (id_found i t.nodes h)) (omega arith)
        | inr h ↦ no_level (length t.nodes) t i (ap entries (none (body_of t i) h))
      ]

pub all_shallow : (l : Limits) (t : Tree) → Fits l t → Lawful t → (i : ℕ) → Shallow (length t.nodes) t i
all_shallow l t f w i = from_any t (good_of t (ids_of l t f) w) i
