-- Names compared, and names found among the entries of a directory.
use Rattle.std.proofs.Common.{◌≡◌, true, false, List, [], ◌∷◌, refl, arith}
use Rattle.std.proofs.lemmas.Bool.Decides.{nat_tests}
use Rattle.model.specs.Tree.{Name, same, Entry, find_name, without_name}

pub same_is : (n m : Name) → same n m ≡ true → n ≡ m
unfolding same
same_is [] [] h = refl
same_is [] (y ∷ ys) h = grind arith
same_is (x ∷ xs) [] h = grind arith
same_is (x ∷ xs) (y ∷ ys) h = let ih = same_is xs ys in grind (arith, nat_tests)

-- another name is found as before
pub find_without_name : (n m : Name) (es : List Entry) → same n m ≡ false → find_name n (without_name m es) ≡ find_name n es
unfolding find_name without_name
find_without_name n m [] ne = refl
find_without_name n m (e ∷ es) ne = let ih = find_without_name n m es ne in let k = same_is m e.name in grind arith
