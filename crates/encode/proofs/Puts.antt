-- Writing one part after another: what has been written is the front of what is there, and each part makes it longer.
use Rattle.std.proofs.Common.{◌≡◌, ℕ, ◌+◌, ◌-◌, ◌<◌, ◌≤◌, List, [], ◌∷◌, ◌++◌, length, get_or, take, drop, flat_map, Some, None, Option, Bor, sym, refl, ap, ◌∙◌, inl, inr, arith}
use borrow.Rule.Slice.PartMut.{put_mid}
use Rattle.std.proofs.lemmas.Grind.{flat_map-append}
use Rattle.std.proofs.lemmas.List.{take_at, take_more, take_all, drop_at, drop-drop, append_assoc, append-nil, length-append}
use Rattle.std.proofs.lemmas.List.Folds.{length-flat_map-take}
use Rattle.std.proofs.lemmas.Bool.{lt-ltb, le-ltb, cases_lt}
use Rattle.codec.specs.Lengths.{up_to}
use Rattle.encode.specs.Put.{onto, put}

-- no part at all, for a place that has none
abbrev pub no_part : Bor (List ℕ)
no_part = record { ref_ptr = (0, 0); now = [] }

-- the part at a place, and the bytes of the parts before it and of all of them
abbrev pub part_at : List (Bor (List ℕ)) → ℕ → List ℕ
part_at parts i = (get_or parts i no_part).now

abbrev pub joined : List (Bor (List ℕ)) → List ℕ
joined parts = flat_map (λ part. part.now) parts

pub one_more : (parts : List (Bor (List ℕ))) (i : ℕ) → i < length parts → joined (take (i + 1) parts) ≡ joined (take i parts) ++ part_at parts i
one_more parts i l =
    rw (take_more parts i no_part l)
    (flat_map-append (λ part. part.now) (take i parts) (get_or parts i no_part ∷ [])
    ∙ ap (λ xs. joined (take i parts) ++ xs) (append-nil (part_at parts i)))

pub fits : (parts : List (Bor (List ℕ))) (i : ℕ) → i < length parts → length (joined (take i parts)) + length (part_at parts i) ≤ length (joined parts)
fits parts i l = length-flat_map-take (λ part. part.now) parts i no_part l

-- THE NEXT PART, after what is written
after : (done ys p : List ℕ) → drop (length done + length ys) (onto done p) ≡ drop (length (done ++ ys)) p
after done ys p =
    let rest : List ℕ = drop (length done) p in
    sym (drop-drop (length ys) (length done) (done ++ rest)) ∙ ap (λ xs. drop (length ys) xs) (drop_at done rest (length done) refl)
    ∙ drop-drop (length ys) (length done) p ∙ ap (λ i. drop i p) (sym (length-append done ys))

next : (done ys p : List ℕ) → put_mid (length done) (length done + length ys - length done) (onto done p) ys ≡ onto (done ++ ys) p
next done ys p =
    let e : length done + (length done + length ys - length done) ≡ length done + length ys = omega arith in
    let rest : List ℕ = drop (length done) p in
    rw (drop-drop, e, after done ys p, take_at done rest (length done) refl)
    (sym (append_assoc done ys (drop (length (done ++ ys)) p)))

pub put_next :
    (parts : List (Bor (List ℕ))) (i at : ℕ) (p out new : List ℕ) → i < length parts → out ≡ onto (joined (take i parts)) p →
    at ≡ length (joined (take i parts)) → new ≡ part_at parts i →
    put_mid at (at + length (part_at parts i) - at) out new ≡ onto (joined (take (i + 1) parts)) p
put_next parts i at p out new l o a n = rw (o, a, n, one_more parts i l) (next (joined (take i parts)) (part_at parts i) p)

-- WHETHER THERE IS ROOM
pub some_end : (room x end : ℕ) → Some end ≡ up_to room x → (end ≡ x) × (x ≤ room)
some_end room x end e =
    elim (cases_lt room x) [
      | inl l ↦
          let n : Some end ≡ None = rw (lt-ltb room x l) at e in
          let z : ◌≡◌ {A = ℕ} 0 1 = cc in absurd (omega arith)
      | inr l ↦ let n : Some end ≡ Some x = rw (le-ltb room x l) at e in ((let q : end ≡ x = cc in q), l)
    ]

pub no_end : (room x : ℕ) → room < x → ◌≡◌ {A = Option ℕ} None (up_to room x)
no_end room x l = rw (lt-ltb room x l)

-- ALL PARTS
pub put_all :
    (parts : List (Bor (List ℕ))) (i size : ℕ) (p out : List ℕ) → length parts ≤ i → size ≡ length (joined parts) → size ≤ length p →
    out ≡ onto (joined (take i parts)) p → ◌≡◌ {A = Option ℕ × List ℕ} (Some size, out) (put (joined parts) p)
put_all parts i size p out h e l q =
    let le : length (joined parts) ≤ length p = omega arith in
    rw (le-ltb (length p) (length (joined parts)) le, e, q, take_all i parts h)
