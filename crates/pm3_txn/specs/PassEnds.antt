-- How a commit with a pass ends.
use Rattle.std.specs.Prelude.{ℕ, ◌≡◌, ◌||◌, ◌&&◌, Bool, false, not}
use Rattle.std.specs.FinMap.{contains_key}
use Rattle.std.specs.FinSet as set
use Rattle.pm3_access.specs.declared.parted.Parted.{Parted}
use Rattle.pm3_access.specs.FreeList.{Numbers}
use Rattle.pm3_table.specs.Deeds.{marks_of, reads_of, stands_of, word_of}
use Rattle.pm3_table.specs.Holds.{holds_of, is_in, spans_of}
use Rattle.pm3_table.specs.Reads.{marked_then, read_of}
use Rattle.pm3_txn.specs.States.{MutatorState}
use Rattle.pm3_txn.specs.Takes.{with_view}

-- the page has a written image, and was not held alone when it was found
abbrev pub is_promoted : Parted → ℕ → Bool
is_promoted p q = contains_key p.written.images q && not (contains_key p.rest.found q)

-- The pages that pass the test were settled as persistent. They are held, are known to be persistent, are in no space, and have no mark.
pub record HasSettled {R : Type 0} (pages : ℕ) (old new : MutatorState R) (has : ℕ → Bool) : Type 0 where
  pub rest : new ≡ with_view old (record old.pass.1 {
    log = new.pass.1.log;
    holds = new.pass.1.holds;
    spans = new.pass.1.spans;
    steady = new.pass.1.steady;
    pages = new.pass.1.pages;
  })
  pub words : (q : ℕ) → word_of new.pass.1.log q ≡ word_of old.pass.1.log q
  pub stands : (q : ℕ) → stands_of new.pass.1.log q ≡ stands_of old.pass.1.log q
  pub holds : (u : ℕ) → holds_of new.pass.1.holds u ≡ (has u || holds_of old.pass.1.holds u)
  pub spans : (u q : ℕ) → spans_of new.pass.1.spans u q ≡ (not (has q) && spans_of old.pass.1.spans u q)
  pub steady : (q : ℕ) → is_in q new.pass.1.steady ≡ (has q || is_in q old.pass.1.steady)
  pub marks : (q : ℕ) → marks_of new.pass.1.log q ≡ (not (has q) && marks_of old.pass.1.log q)
  pub marked : (q : ℕ) → marked_then new.pass.1.log q ≡ marked_then old.pass.1.log q
  pub read : (n : ℕ) → read_of new.pass.1.log n ≡ read_of old.pass.1.log n
  pub reads : (q : ℕ) → has q ≡ false → (n : ℕ) → reads_of pages new.pass.1.log q n ≡ reads_of pages old.pass.1.log q n

-- the pages of a set but for those of another
abbrev pub is_other : Numbers → Numbers → ℕ → Bool
is_other pages but q = set.contains pages q && not (set.contains but q)
