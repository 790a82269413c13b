-- Calls of two numbers and more: their parts, one after another, are their bytes.
use Rattle.std.proofs.Common.{◌≡◌, ℕ, ◌⊎◌, List, [], ◌∷◌, ◌++◌, length, Some, Option, Bor, sym, ap, ◌∙◌, subst, inl, inr}
use Rattle.std.proofs.lemmas.List.{append-nil}
use Rattle.calls.specs.declared.kind.Kind.{Kind}
use Rattle.calls.specs.declared.Call.{Call}
use Rattle.calls.specs.declared.Call.TheVariants as call
use Rattle.calls.specs.Kinds.{kind_number, kind_of, number_by}
use Rattle.calls.specs.Meaning.{call_of}
use Rattle.codec.specs.Numbers.{le8}
use Rattle.codec.specs.Lengths.{digits}
use Rattle.encode.specs.Put.{put, put_call}

-- that a call was written
abbrev pub Wrote : Option ℕ → List ℕ → List ℕ → Call → Type 0
Wrote size out before c = ◌≡◌ {A = Option ℕ × List ℕ} (size, out) (put_call (call_of c) before)

abbrev WrotePut : Option ℕ → List ℕ → List ℕ → List ℕ → Type 0
WrotePut size out before bytes = ◌≡◌ {A = Option ℕ × List ℕ} (size, out) (put bytes before)

-- the number that is written for a call
pub number_of : (c : Call) (r : Option Kind) (kind : Kind) (n : ℕ) → r ≡ kind_of c → r ≡ Some kind → n ≡ kind_number kind → n ≡ number_by (kind_of c)
number_of c r found n k s e = e ∙ ap number_by (sym s ∙ k)

pub two_numbers :
    (c : Call) (n x y : ℕ) (xs ys before out : List ℕ) (size : Option ℕ) → (c ≡ call.List x y) ⊎ ((c ≡ call.Read x y) ⊎ (c ≡ call.Resize x y)) →
    n ≡ number_by (kind_of c) → xs ≡ le8 x → ys ≡ le8 y → WrotePut size out before ((n ∷ []) ++ (xs ++ (ys ++ []))) → Wrote size out before c
two_numbers c n x y xs ys before out size (inl e) k a b w =
    let n' : n ≡ 5 = rw e at k in
    let q : (n ∷ []) ++ (xs ++ (ys ++ [])) ≡ 5 ∷ le8 x ++ le8 y = rw (n', a, b) in
    subst (Wrote size out before) (sym e) (w ∙ ap (λ bytes. put bytes before) q)
two_numbers c n x y xs ys before out size (inr (inl e)) k a b w =
    let n' : n ≡ 7 = rw e at k in
    let q : (n ∷ []) ++ (xs ++ (ys ++ [])) ≡ 7 ∷ le8 x ++ le8 y = rw (n', a, b) in
    subst (Wrote size out before) (sym e) (w ∙ ap (λ bytes. put bytes before) q)
two_numbers c n x y xs ys before out size (inr (inr e)) k a b w =
    let n' : n ≡ 9 = rw e at k in
    let q : (n ∷ []) ++ (xs ++ (ys ++ [])) ≡ 9 ∷ le8 x ++ le8 y = rw (n', a, b) in
    subst (Wrote size out before) (sym e) (w ∙ ap (λ bytes. put bytes before) q)

pub a_write :
    (c : Call) (n i o : ℕ) (b : Bor (List ℕ)) (is os before out : List ℕ) (size : Option ℕ) → c ≡ call.Write i o b →
    n ≡ number_by (kind_of c) → is ≡ le8 i → os ≡ le8 o → WrotePut size out before ((n ∷ []) ++ (is ++ (os ++ (b.now ++ [])))) →
    Wrote size out before c
a_write c n i o b is os before out size e k p q w =
    let n' : n ≡ 8 = rw e at k in
    let r : (n ∷ []) ++ (is ++ (os ++ (b.now ++ []))) ≡ 8 ∷ le8 i ++ (le8 o ++ b.now) = rw (n', p, q, append-nil b.now) in
    subst (Wrote size out before) (sym e) (w ∙ ap (λ bytes. put bytes before) r)

pub a_rename :
    (c : Call) (n d e : ℕ) (name new : Bor (List ℕ)) (ds es length' before out : List ℕ) (size : Option ℕ) →
    c ≡ call.Rename d name e new → n ≡ number_by (kind_of c) → ds ≡ le8 d → es ≡ le8 e → length' ≡ digits (length name.now) →
    WrotePut size out before ((n ∷ []) ++ (ds ++ (es ++ (length' ++ (name.now ++ (new.now ++ [])))))) → Wrote size out before c
a_rename c n d e name new ds es length' before out size s k p q l w =
    let n' : n ≡ 4 = rw s at k in
    let r : (n ∷ []) ++ (ds ++ (es ++ (length' ++ (name.now ++ (new.now ++ []))))) ≡
    4 ∷ le8 d ++ (le8 e ++ (digits (length name.now) ++ (name.now ++ new.now))) = rw (n', p, q, l, append-nil new.now) in
    subst (Wrote size out before) (sym s) (w ∙ ap (λ bytes. put bytes before) r)
