-- A new node of a kind of the code's: what tables hold after it comes, and after it has a name.
use Rattle.std.proofs.Common.{◌≡◌, suc, ◌<◌, [], ◌∷◌, ◌++◌, refl}
use Rattle.model.specs.Tree.{Name, dir, file, made}
use Rattle.tables.specs.Lookup.{Place}
use Rattle.tables.specs.Edits.{Tables, added, made_in}
use Rattle.tables.specs.Stands.{Holds}
use Rattle.tables.proofs.Changes.{added_holds}
use Rattle.tables.proofs.Operations.{made_holds}
use Rattle.rows.specs.declared.nodes.Kind.{Kind}
use Rattle.rows.specs.declared.nodes.Kind.TheVariants.{Dir, File}
use Rattle.rows.specs.Kinds.{kind_number}
use Rattle.change.specs.Given.{empty, Held}

module _ {T : Tables} {p : Place} (g : Held T p) where
  pub added_for : T.used.nodes < g.most → (k : Kind) →
      Holds g.most g.room
      (record { nodes = g.tree.nodes ++ (record { id = g.tree.next; body = empty k } ∷ []); next = suc g.tree.next })
      (added (kind_number k) T)
  added_for few Dir = added_holds g.holds few (dir []) refl refl
  added_for few File = added_holds g.holds few (file []) refl refl

  pub made_for : p.kind ≡ 0 → T.used.nodes < g.most → T.used.entries < g.most → (n : Name) (k : Kind) →
      Holds g.most g.room (made g.id n (empty k) g.tree) (made_in p n (kind_number k) T)
  made_for is few named_few n Dir = made_holds g.holds g.stands is few named_few n (dir []) refl refl
  made_for is few named_few n File = made_holds g.holds g.stands is few named_few n (file []) refl refl
