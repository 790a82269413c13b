-- A name read from words: that zeros after its end are a matter of its last word, and what is read or refused by that.
use Rattle.std.proofs.Common.{◌≡◌, ℕ, suc, ◌+◌, ◌-◌, ◌*◌, ◌/◌, ◌%◌, ◌^◌, ◌<◌, ◌≤◌, Bool, true, false, cond, ◌||◌, eqb, ltb, List, [], ◌∷◌, length, get_or, take, Some, None, sym, refl, ap, ◌∙◌, inl, inr, arith, length-take, take-take}
use Rattle.std.specs.List.{flat_map, slice_get}
use Rattle.std.proofs.lemmas.Option.{slice_get-get_or}
use Rattle.std.proofs.lemmas.Bool.{cases_lt, lt-ltb, le-ltb, ne_eqb}
use Rattle.blocks.specs.Words.{bytes_of, zeros_after}
use Rattle.machine.specs.Journal.{name_size, name_from}

-- THE LAST WORD of so many bytes: is it zeros after them?
abbrev pub clean : ℕ → ℕ → Bool
clean n w = eqb (n % 8) 0 || eqb (w / 2 ^ (8 * (n % 8))) 0

pub zeros_last : (n : ℕ) (ws : List ℕ) → length ws ≡ name_size n → 0 < n → zeros_after n ws ≡ clean n (get_or ws (name_size n - 1) 0)
zeros_last n [] l some = absurd (omega arith)
zeros_last n (w ∷ []) l some = elim (cases_lt n 8) [
  | inl h ↦
      let u : ltb n 8 ≡ true = lt-ltb n 8 h in
      let m : n % 8 ≡ n = omega arith in
      let z : eqb n 0 ≡ false = ne_eqb n 0 (λ e. omega arith) in
      let i : name_size n - 1 ≡ 0 = omega arith in
      rw (u, m, z, i) (one (eqb (w / 2 ^ (8 * n)) 0))
  | inr h ↦
      let u : ltb n 8 ≡ false = le-ltb n 8 h in
      let m : n % 8 ≡ 0 = omega arith in
      rw (u, m)
]
  where
    one : (b : Bool) → cond b true false ≡ b
    one true = refl
    one false = refl
zeros_last n (w ∷ v ∷ ws) l some =
    let u : ltb n 8 ≡ false = le-ltb n 8 (omega arith) in
    let m : (n - 8) % 8 ≡ n % 8 = omega arith in
    let i : name_size n - 1 ≡ suc (name_size (n - 8) - 1) = omega arith in
    let ih = zeros_last (n - 8) (v ∷ ws) (omega arith) (omega arith) in
    rw (u, i) (ih ∙ ap (λ k. eqb k 0 || eqb (get_or (v ∷ ws) (name_size (n - 8) - 1) 0 / 2 ^ (8 * k)) 0) m)

-- A NAME of 1 to 64 bytes: its length, and what follows with the name's words in front
module _ (ws rest body : List ℕ) (n last : ℕ) (whole : ws ≡ n ∷ rest) (front : body ≡ take (name_size n) rest)
    (room : name_size n ≤ length rest) (some : 0 < n) (short : n ≤ 64) (end : Some last ≡ slice_get body (length body - 1)) where
  some_name : eqb n 0 ≡ false
  some_name = ne_eqb n 0 (λ e. omega arith)

  short_name : ltb 64 n ≡ false
  short_name = le-ltb 64 n short

  room_for_name : ltb (suc (length rest)) (1 + name_size n) ≡ false
  room_for_name = le-ltb (suc (length rest)) (1 + name_size n) (omega arith)

  long : length body ≡ name_size n
  long = ap length front ∙ simp length-take (omega arith)

  ends : zeros_after n (take (name_size n) rest) ≡ clean n last
  ends =
      let g : Some last ≡ Some (get_or body (length body - 1) 0) =
      end ∙ slice_get-get_or body (length body - 1) 0 (omega (arith, long)) in
      let f : get_or body (length body - 1) 0 ≡ last = cc in
      ap (zeros_after n) (sym front) ∙ (zeros_last n body long some
      ∙ (ap (λ k. clean n (get_or body (k - 1) 0)) (sym long) ∙ ap (clean n) f))

  -- something after its end
  pub name_unclean : clean n last ≡ false → None ≡ name_from ws
  name_unclean h =
      let z : zeros_after n (take (name_size n) rest) ≡ false = ends ∙ h in
      rw (whole, some_name, short_name, room_for_name, z)

  -- a name, from bytes that begin with those of its words
  pub name_clean : (bytes : List ℕ) → clean n last ≡ true → take (8 * length body) bytes ≡ flat_map (bytes_of 8) body →
      Some (take n bytes, 1 + length body) ≡ name_from ws
  name_clean bytes h e =
      let z : zeros_after n (take (name_size n) rest) ≡ true = ends ∙ h in
      let t : take n bytes ≡ take n (flat_map (bytes_of 8) (take (name_size n) rest)) =
      sym (take-take n (8 * length body) bytes (omega (arith, long)))
      ∙ ap (take n) (e ∙ ap (flat_map (bytes_of 8)) front) in
      rw (whole, some_name, short_name, room_for_name, z, t, long) refl
