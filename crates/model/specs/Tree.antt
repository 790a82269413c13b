-- TREES. A tree has nodes, each with an id: a directory, which has entries, or a file, which has cells. Node 0 is the
-- first directory. Definitions only.
use Rattle.std.specs.Prelude.{Bool, true, false, cond, ◌&&◌, ◌||◌, List, [], ◌∷◌, ◌++◌, ℕ, zero, suc, eqb}

-- a name is a string of bytes; which lengths may be is a matter of the refusals
abbrev pub Name : Type 0
Name = List ℕ

unfoldable pub same : Name → Name → Bool
same [] [] = true
same [] (y ∷ ys) = false
same (x ∷ xs) [] = false
same (x ∷ xs) (y ∷ ys) = eqb x y && same xs ys

-- an entry gives a name to the node with that id
pub record Entry : Type 0 where
  pub name : Name
  pub id : ℕ

-- a directory has its entries in the order in which they came; a file has a cell for each of its places
pub data Body : Type 0 where
  dir : List Entry → Body
  file : List ℕ → Body

pub record Node : Type 0 where
  pub id : ℕ
  pub body : Body

-- the nodes, and the id that the next new node gets
pub record Tree : Type 0 where
  pub nodes : List Node
  pub next : ℕ

-- at first there is directory 0, empty
abbrev pub new_tree : Tree
new_tree = record { nodes = record { id = 0; body = dir [] } ∷ []; next = 1 }

-- LOOKING. What may be missing is a list: empty where it is missing, and else with one element
unfoldable pub some_of : {A : Type 0} → List A → Bool
some_of [] = false
some_of (x ∷ xs) = true

unfoldable pub first_of : List ℕ → ℕ
first_of [] = 0
first_of (x ∷ xs) = x

-- the body of the node with an id
unfoldable pub find_node : ℕ → List Node → List Body
find_node i [] = []
find_node i (t ∷ ts) = cond (eqb i t.id) (t.body ∷ []) (find_node i ts)

abbrev pub body_of : Tree → ℕ → List Body
body_of t i = find_node i t.nodes

unfoldable pub is_dir : List Body → Bool
is_dir [] = false
is_dir (dir es ∷ bs) = true
is_dir (file cs ∷ bs) = false

unfoldable pub is_file : List Body → Bool
is_file [] = false
is_file (dir es ∷ bs) = false
is_file (file cs ∷ bs) = true

-- the entries of a directory; none of anything else
unfoldable pub entries : List Body → List Entry
entries [] = []
entries (dir es ∷ bs) = es
entries (file cs ∷ bs) = []

-- the cells of a file; none of anything else
unfoldable pub cells : List Body → List ℕ
cells [] = []
cells (dir es ∷ bs) = []
cells (file cs ∷ bs) = cs

-- the id that a name has in a directory
unfoldable pub find_name : Name → List Entry → List ℕ
find_name n [] = []
find_name n (e ∷ es) = cond (same n e.name) (e.id ∷ []) (find_name n es)

abbrev pub named : Tree → ℕ → Name → List ℕ
named t d n = find_name n (entries (body_of t d))

-- all cells of all files
unfoldable pub all_cells : List Node → List ℕ
all_cells [] = []
all_cells (t ∷ ts) = cells (t.body ∷ []) ++ all_cells ts

-- CHANGING. The first entry with a name is left out, or the node with an id
unfoldable pub without_name : Name → List Entry → List Entry
without_name n [] = []
without_name n (e ∷ es) = cond (same n e.name) es (e ∷ without_name n es)

unfoldable pub without_node : ℕ → List Node → List Node
without_node i [] = []
without_node i (t ∷ ts) = cond (eqb i t.id) ts (t ∷ without_node i ts)

-- the node with an id gets another body
unfoldable pub with_body : ℕ → Body → List Node → List Node
with_body i b [] = []
with_body i b (t ∷ ts) = cond (eqb i t.id) (record { id = i; body = b } ∷ ts) (t ∷ with_body i b ts)

abbrev pub put_body : ℕ → Body → Tree → Tree
put_body i b t = record { nodes = with_body i b t.nodes; next = t.next }

abbrev pub drop_node : ℕ → Tree → Tree
drop_node i t = record { nodes = without_node i t.nodes; next = t.next }

-- a new entry goes last in its directory
abbrev pub put_entry : ℕ → Name → ℕ → Tree → Tree
put_entry d n i t = put_body d (dir (entries (body_of t d) ++ (record { name = n; id = i } ∷ []))) t

abbrev pub drop_entry : ℕ → Name → Tree → Tree
drop_entry d n t = put_body d (dir (without_name n (entries (body_of t d)))) t

-- a new node, named n in directory d; its id is not used again
abbrev pub made : ℕ → Name → Body → Tree → Tree
made d n b t =
    put_entry d n t.next (record { nodes = t.nodes ++ (record { id = t.next; body = b } ∷ []); next = suc t.next })

-- the name n of directory d goes, and node i, which had it
abbrev pub removed : ℕ → Name → ℕ → Tree → Tree
removed d n i t = drop_node i (drop_entry d n t)

unfoldable pub without_any : ℕ → Name → List ℕ → Tree → Tree
without_any e m [] t = t
without_any e m (j ∷ js) t = removed e m j t

-- node i, named n in directory d, is named m in directory e from now on, in place of what was named so
abbrev pub moved : ℕ → Name → ℕ → Name → ℕ → Tree → Tree
moved d n e m i t = put_entry e m i (drop_entry d n (without_any e m (named t e m) t))

-- Is node j node i itself, or in it at some depth? Answered by going down at most so many steps, where passing over one
-- entry is a step and so is going into it.
unfoldable mutual
  pub holds : ℕ → Tree → ℕ → ℕ → Bool
  holds zero t i j = eqb i j
  holds (suc k) t i j = eqb i j || any_holds k t (entries (body_of t i)) j

  pub any_holds : ℕ → Tree → List Entry → ℕ → Bool
  any_holds zero t es j = false
  any_holds (suc k) t [] j = false
  any_holds (suc k) t (e ∷ es) j = holds k t e.id j || any_holds k t es j
