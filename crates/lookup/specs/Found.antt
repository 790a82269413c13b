-- What a search in the tables tells of a tree. Definitions only.
use Rattle.std.specs.Prelude.{◌≡◌, ℕ, false, List, [], ◌∷◌, Some, None, Option}
use Rattle.model.specs.Tree.{Name, Tree, body_of, entries, named, is_dir, is_file}
use Rattle.tables.specs.Stands.{Stands, EntryStands}
use Rattle.rows.specs.declared.nodes.Place.{Place}
use Rattle.rows.specs.Places.{place_in}
use Rattle.lookup.specs.declared.search.Named.{Named}

-- a node by its id
abbrev pub NodeFound : Tree → ℕ → Option Place → Type 0
NodeFound t i None = body_of t i ≡ []
NodeFound t i (Some p) = Stands i t.nodes (place_in p)

abbrev pub DirFound : Tree → ℕ → Option Place → Type 0
DirFound t d None = is_dir (body_of t d) ≡ false
DirFound t d (Some p) = Stands d t.nodes (place_in p) × ((place_in p).kind ≡ 0)

abbrev pub FileFound : Tree → ℕ → Option Place → Type 0
FileFound t i None = is_file (body_of t i) ≡ false
FileFound t i (Some p) = Stands i t.nodes (place_in p) × ((place_in p).kind ≡ 1)

-- a name in a directory: which entry has it, and the id
abbrev pub NameFound : Tree → ℕ → Name → Option Named → Type 0
NameFound t d n None = named t d n ≡ []
NameFound t d n (Some r) = EntryStands n (entries (body_of t d)) r.index × (named t d n ≡ r.id ∷ [])

-- the ids that were found
abbrev pub ids_in : Option Named → List ℕ
ids_in None = []
ids_in (Some r) = r.id ∷ []
