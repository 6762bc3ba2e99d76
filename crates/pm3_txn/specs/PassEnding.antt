-- How the commit of a pass ends, once it was carried out.
use Rattle.std.specs.Prelude.{ℕ, ◌≡◌, ◌<◌, ◌≤◌, ◌||◌, ◌&&◌, Bool, true, false, not, List, [], ◌∷◌, ◌++◌, Option, slice_index_or}
use Rattle.std.specs.FinMap as map
use Rattle.std.specs.FinMap.{contains_key}
use Rattle.std.specs.FinSet as set
use Rattle.atomic_table.specs.Seated.{TableId}
use Rattle.pm3_core.specs.declared.naming.TheConstants.{BASE}
use Rattle.pm3_core.specs.Naming.{Names}
use Rattle.pm3_types.specs.PassMoves.{AreMoves, Move}
use Rattle.pm3_page.specs.PageMap.{Images}
use Rattle.pm3_copy.specs.Spreading.{before_of}
use Rattle.pm3_access.specs.declared.parted.Parted.{Parted}
use Rattle.pm3_access.specs.FreeList.{Numbers}
use Rattle.pm3_access.specs.Parting.{joined}
use Rattle.pm3_history.specs.Entry.{Done}
use Rattle.pm3_history.specs.Opens.{Opens}
use Rattle.pm3_history.specs.State.{State}
use Rattle.pm3_table.specs.declared.view.Told.{Told}
use Rattle.pm3_table.specs.declared.view.View.{View}
use Rattle.pm3_table.specs.Deeds.{marks_of, stands_of, word_of}
use Rattle.pm3_table.specs.Holds.{holds_of, spans_of}
use Rattle.pm3_table.specs.Ops.{gave, turned}
use Rattle.pm3_table.specs.Words.{turn_unit}
use Rattle.pm3_txn.specs.Aborting.{HasCleared, was_written}
use Rattle.pm3_txn.specs.CarriedPass.{Carried, IsCarriedBy, parts_of, pass_by}
use Rattle.pm3_txn.specs.CommitParts.{HasOnlyPassed}
use Rattle.pm3_txn.specs.Knowing.{state_seen}
use Rattle.pm3_txn.specs.PassCommits.{Marks, done_with}
use Rattle.pm3_txn.specs.PassSteps.{IsPassing, set_aside}
use Rattle.pm3_txn.specs.States.{MutatorState}
use Rattle.pm3_txn.specs.Takes.{with_view}

-- A mutator that has the turn has carried out a pass over what it holds with its space. Each page of the space to which a reference of
-- its row leads is pinned, and has turned persistent.
pub record HasCarried {R : Type 0} (content : R → Option (List ℕ)) (heap : TableId × Told) (m : MutatorState R) (c : Carried) : Type 0 where
  pub ready : IsPassing content heap m (joined (parts_of c))
  pub carried : IsCarriedBy heap.1 (set_aside heap.1 m ready.log).pass.1 m.space m.next_name m.pass.1.log c
  pub turned_row : (q page : ℕ) → slice_index_or m.refs q false ≡ true → contains_key c.volatile.images page ≡ true → Names heap.1.pages (word_of m.pass.1.log q) page
      → (set.contains c.pins page ≡ true) × (contains_key c.written_now page ≡ true)

-- The marks come behind those of what a view has seen: the next name is no lower than this one, and the high page is above all pages
-- that are written.
pub record AreMarksFor (told : Told) (v : View) (next : ℕ) (written : Images) (marks : Marks) : Type 0 where
  pub mine : marks.mutator ≡ v.row
  pub low : next ≤ marks.next_name
  pub rise : (st : State) → Opens BASE told.pages told.opening st → ((state_seen told v st).next_name ≤ marks.next_name) × ((state_seen told v st).high_page ≤ marks.high_page)
  pub high : (q : ℕ) → contains_key written q ≡ true → q < marks.high_page
  pub most : marks.high_page ≤ told.pages

-- the commit is that of a pass that was carried out
pub record IsPassCommit {R : Type 0} (content : R → Option (List ℕ)) (heap : TableId × Told) (m : MutatorState R) (c : Carried) (d : Done) : Type 0 where
  pub has : HasCarried content heap m c
  pub marks : Marks
  pub marks_are : AreMarksFor heap.1 m.pass.1 m.next_name c.written_now marks
  pub moves : List Move
  pub moves_are : AreMoves heap.1.opening.catalog BASE (before_of c.volatile.images c.written.images c.pins) (map.keys c.fresh) moves
  pub is : d ≡ done_with marks (joined (parts_of c)) (pass_by m.space m.next_name m.pass.1.names c moves)

-- These parts are what the pass has left, and these are its pinned pages, those of them that turned persistent, and the pages that it
-- gave up.
pub record HasLeft (c : Carried) (p : Parted) (pins promoted freed : Numbers) : Type 0 where
  pub volatile : p.volatile.images ≡ c.space_now
  pub written : p.written.images ≡ c.written_now
  pub rest : p.rest ≡ (parts_of c).rest
  pub pins_are : pins ≡ c.pins
  pub promoted_are : (q : ℕ) → set.contains promoted q ≡ (set.contains c.pins q && contains_key c.written_now q)
  pub freed_are : (q : ℕ) → set.contains freed q ≡ (contains_key c.volatile.images q && not (set.contains c.pins q))

-- The turn was given back with a commit, and the pages that pass the test were settled as persistent. Nothing is marked, and the words
-- of the row are as they were.
pub record HasEndedPass {R : Type 0} (told : Told) (old new : MutatorState R) (promoted : ℕ → Bool) (d : Done) (faults : ℕ) : Type 0 where
  pub rest : new ≡ with_view old (record (turned (turn_unit told.pages) old.pass.1 (d ∷ []) [] faults) {
    log = new.pass.1.log;
    holds = new.pass.1.holds;
    spans = new.pass.1.spans;
    steady = new.pass.1.steady;
    pages = new.pass.1.pages;
  })
  pub words : (q : ℕ) → word_of new.pass.1.log q ≡ word_of old.pass.1.log q
  pub stands : (q : ℕ) → stands_of new.pass.1.log q ≡ stands_of old.pass.1.log q
  pub holds : (u : ℕ) → holds_of new.pass.1.holds u ≡ (promoted u || holds_of (gave old.pass.1 (turn_unit told.pages)).holds u)
  pub spans : (u q : ℕ) → spans_of new.pass.1.spans u q ≡ (not (promoted q) && spans_of old.pass.1.spans u q)
  pub bare : (q : ℕ) → marks_of new.pass.1.log q ≡ false

-- The turn was given back with these commits, when so many faults were counted; so were other units, once pages were settled. All else
-- is as it was.
pub record HasGivenPass {R : Type 0} (old new : MutatorState R) (more failed : List Done) (faults : ℕ) : Type 0 where
  pub rest : HasOnlyPassed old new
  pub seen : new.pass.1.seen ≡ old.pass.1.seen ++ more
  pub mine : new.pass.1.mine ≡ old.pass.1.mine ++ more
  pub failed_are : new.pass.1.failed ≡ old.pass.1.failed ++ failed
  pub heard : new.pass.1.faults ≡ faults

-- it has ended, where these commits failed
pub record HasFailedPass {R : Type 0} (old new : MutatorState R) (failed : List Done) : Type 0 where
  pub last : MutatorState R
  pub given : HasGivenPass old last [] failed new.pass.1.faults
  pub heard : old.pass.1.faults ≤ new.pass.1.faults
  pub cleared : HasCleared last new (was_written old)
