-- The reason why a call that lists entries or is about a file is refused, or that it is not, by what was found in the tree.
use Rattle.std.proofs.Common.{◌≡◌, ℕ, ◌+◌, ◌-◌, ◌<◌, ◌≤◌, true, false, cond, ltb, leb, List, length, refl, ◌∙◌}
use Rattle.std.proofs.lemmas.Bool.{lt-ltb, le-ltb, eq-eqb, ne_eqb}
use Rattle.model.specs.Tree.{Tree, body_of, is_dir, is_file, entries, cells}
use Rattle.model.specs.Calls.{list, size, read, write, resize, sync_file}
use Rattle.model.specs.Refusals.{Limits, may_change, refusal_by}
use Rattle.steps.specs.Steps.{Reads, Writes}

module _ (l : Limits) (t : Tree) (older held : ℕ) where
  -- entries listed
  module _ (d k : ℕ) where
    pub list_no_dir : is_dir (body_of t d) ≡ false → refusal_by l t older held (list d k) ≡ 3
    unfolding refusal_by
    list_no_dir e = rw e

    pub list_past : is_dir (body_of t d) ≡ true → length (entries (body_of t d)) ≤ k → refusal_by l t older held (list d k) ≡ 5
    unfolding refusal_by
    list_past e f = rw e (rw (le-ltb k (length (entries (body_of t d))) f))

    pub list_done : is_dir (body_of t d) ≡ true → k < length (entries (body_of t d)) → refusal_by l t older held (list d k) ≡ 0
    unfolding refusal_by
    list_done e f = rw e (rw (lt-ltb k (length (entries (body_of t d))) f))

  -- files
  module _ (i : ℕ) where
    pub size_no_file : is_file (body_of t i) ≡ false → refusal_by l t older held (size i) ≡ 4
    unfolding refusal_by
    size_no_file e = rw e

    pub size_done : is_file (body_of t i) ≡ true → refusal_by l t older held (size i) ≡ 0
    unfolding refusal_by
    size_done e = rw e

    pub sync_no_file : is_file (body_of t i) ≡ false → refusal_by l t older held (sync_file i) ≡ 4
    unfolding refusal_by
    sync_no_file e = rw e

    pub sync_done : is_file (body_of t i) ≡ true → refusal_by l t older held (sync_file i) ≡ 0
    unfolding refusal_by
    sync_done e = rw e

    module _ (o : ℕ) where
      pub read_no_file : is_file (body_of t i) ≡ false → refusal_by l t older held (read i o) ≡ 4
      unfolding refusal_by
      read_no_file e = rw e

      pub read_past : is_file (body_of t i) ≡ true → length (cells (body_of t i)) ≤ o → refusal_by l t older held (read i o) ≡ 10
      unfolding refusal_by
      read_past e f = rw e (rw (le-ltb o (length (cells (body_of t i))) f))

      pub read_done : is_file (body_of t i) ≡ true → o < length (cells (body_of t i)) → refusal_by l t older held (read i o) ≡ 0
      unfolding refusal_by
      read_done e f = rw e (rw (lt-ltb o (length (cells (body_of t i))) f))

      -- what is refused of a read is refused of a write
      pub write_same : (b : List ℕ) → refusal_by l t older held (write i o b) ≡ refusal_by l t older held (read i o)
      unfolding refusal_by
      write_same b = refl

    -- files resized
    module _ (n : ℕ) where
      pub resize_no_file : is_file (body_of t i) ≡ false → refusal_by l t older held (resize i n) ≡ 4
      unfolding refusal_by
      resize_no_file e = rw e

      module _ (e : is_file (body_of t i) ≡ true) where
        pub resize_same : n ≡ length (cells (body_of t i)) → refusal_by l t older held (resize i n) ≡ 0
        unfolding refusal_by
        resize_same f = rw e (rw (eq-eqb n (length (cells (body_of t i))) f))

        module _ (k : ℕ) (c : k ≡ length (cells (body_of t i))) (f : n ≡ k → ⊥) where
          pub resize_other : refusal_by l t older held (resize i n) ≡ cond (leb (held + (n - k)) l.room) (may_change l older) 8
          unfolding refusal_by
          resize_other = rw e (rw (← c) (rw (ne_eqb n k f)))

          pub resize_full : leb (held + (n - k)) l.room ≡ false → refusal_by l t older held (resize i n) ≡ 8
          resize_full g = resize_other ∙ (rw g)

          pub resize_late : leb (held + (n - k)) l.room ≡ true → ltb older l.pending ≡ false →
              refusal_by l t older held (resize i n) ≡ 9
          resize_late g p = resize_other ∙ (rw g (rw p))

          pub resize_done : leb (held + (n - k)) l.room ≡ true → ltb older l.pending ≡ true →
              refusal_by l t older held (resize i n) ≡ 0
          resize_done g p = resize_other ∙ (rw g (rw p))

-- a place and its data block, read as well as written
pub write_place : (t : Tree) (i o b : ℕ) (x : List ℕ) → Reads t (read i o) b → Writes t (write i o x) b x
write_place t i o b x r = record { id = r.id; at = r.at; is = same r.id r.at r.is; below = r.below; block = r.block }
  where
    same : (j p : ℕ) → read i o ≡ read j p → write i o x ≡ write j p x
    same j p e = cc
