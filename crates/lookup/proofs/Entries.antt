-- Names looked up in tables that hold a tree: where a search ends there is the entry, or the name is not there.
use Rattle.std.proofs.Common.{◌≡◌, ℕ, ◌+◌, ◌*◌, ◌<◌, ◌≤◌, true, ltb, leb, List, [], ◌∷◌, ◌++◌, length, get_or, drop, sym, ap, ◌∙◌, subst, inl, inr, arith}
use Rattle.model.specs.Calls.{good_name, bytes}
use Rattle.std.proofs.lemmas.List.{get_or-take, get_or-drop}
use Rattle.std.proofs.lemmas.Bool.{leb-true, and_parts}
use Rattle.model.specs.Tree.{Name, Entry, Tree, body_of, entries, named}
use Rattle.model.specs.Refusals.{Limits}
use Rattle.machine.specs.Tables.{name_key}
use Rattle.machine.specs.Fits.{every, ok_name, ok_entry, ok_node}
use Rattle.model.specs.Fs.{no_entry}
use Rattle.tables.specs.Lookup.{Place, entry_id, name_row}
use Rattle.tables.specs.Edits.{Tables}
use Rattle.tables.specs.Stands.{Stands, EntryStands, NameLookedUp}
use Rattle.machine.proofs.Tables.{entries_is}
use Rattle.tables.proofs.Bodies.{dir_at, own_entries}
use Rattle.tables.proofs.EntryRows.{ok_entries}
use Rattle.tables.proofs.Keys.{every_at}
use Rattle.lookup.specs.Views.{Sound}
use Rattle.rows.specs.Found.{found}
use Rattle.std.proofs.Common.{Some, None, refl}
use Rattle.lookup.proofs.Places.{read, bounds, within, found_some, found_none}

module _ {l : Limits} {T : Tables} {t : Tree} (h : Sound l T t) {d : ℕ} {p : Place} (s : Stands d t.nodes p) (k : p.kind ≡ 0) where
  pub entries_inside : 16 * (p.entries + p.count) ≤ length T.entries
  entries_inside = omega (arith, (within h d p s).dir_entries k, (bounds h).entries_long, h.holds.entries_fit)

  -- a search for a name that ended at an entry, or at none
  module _ (n : Name) (ok : ok_name n ≡ true) where
    looked : (at : ℕ) → name_row (name_key n) p.count p.entries T.entries ≡ at →
        NameLookedUp n (entries (body_of t d)) at (entry_id T.entries (p.entries + at))
    looked at e =
        subst (λ j. NameLookedUp n (entries (body_of t d)) j (entry_id T.entries (p.entries + j))) e
        ((read h).name d p n s h.fits.ok ok k)

    pub name_stands : (at : ℕ) → found p.count (name_row (name_key n) p.count p.entries T.entries) ≡ Some at →
        EntryStands n (entries (body_of t d)) at × (named t d n ≡ entry_id T.entries (p.entries + at) ∷ [])
    name_stands at e =
        let (lt, is) = found_some p.count (name_row (name_key n) p.count p.entries T.entries) at e in
        elim (looked at is) [
          | inl a ↦ absurd (omega (arith, a.0, (dir_at s k).many))
          | inr b ↦ (b.1, b.2)
        ]

    pub name_missing : found p.count (name_row (name_key n) p.count p.entries T.entries) ≡ None → named t d n ≡ []
    name_missing e =
        let le = found_none p.count (name_row (name_key n) p.count p.entries T.entries) e in
        elim (looked _ refl) [
          | inl a ↦ a.1
          | inr b ↦ absurd (omega (arith, b.0, (dir_at s k).many))
        ]

  -- the length of the name of the j-th entry
  pub short_at : (j : ℕ) → j < p.count → get_or T.entries (16 * (p.entries + j) + 1) 0 ≤ 64
  short_at j lt =
      let at : ℕ = 16 * (p.entries + j) + 1 in
      let es : List Entry = entries (body_of t d) in
      let lt2 : j < length es = omega (arith, (dir_at s k).many) in
      let e : Entry = get_or es j no_entry in
      let z : at + 0 ≡ at = omega arith in
      let a : get_or T.entries at 0 ≡ length e.name =
      sym (get_or-take 9 (drop at T.entries) 0 0 (omega arith) ∙ (get_or-drop at T.entries 0 0 ∙ ap (λ n. get_or T.entries n 0) z))
      ∙ ap (λ xs. get_or xs 0 0) ((read h).key d p j s lt2) in
      let w : every (ok_node t.next) (s.pre ++ (record { id = d; body = s.body } ∷ s.post)) ≡ true =
      ap (every (ok_node t.next)) (sym s.whole) ∙ h.fits.ok in
      let o : every (ok_entry t.next) es ≡ true =
      ap (every (ok_entry t.next)) (own_entries s ∙ sym (entries_is s.body))
      ∙ ok_entries t.next s.pre (record { id = d; body = s.body }) s.post w in
      let q : ok_name e.name ≡ true = every_at t.next es j o lt2 in
      let g = and_parts (good_name e.name) (bytes e.name) q in
      let b : length e.name ≤ 64 = leb-true (length e.name) 64 (and_parts (ltb 0 (length e.name)) (leb (length
      e.name) 64) g.0).1 in
      omega arith
