-- A transaction between two of its calls, and what a call makes of it.
use Rattle.std.specs.Prelude.{ℕ, ◌≡◌, ◌≤◌, true, List, Some, None, is_some}
use Rattle.std.specs.FinMap.{get}
use Rattle.pm3_core.specs.declared.naming.TheConstants.{BASE}
use Rattle.pm3_types.specs.Fields.{Fields}
use Rattle.pm3_types.specs.Graph.{Part}
use Rattle.pm3_types.specs.Layout.{Sheet}
use Rattle.pm3_types.specs.Shown.{FitsImages}
use Rattle.pm3_graph.specs.declared.operations.Op.{Op}
use Rattle.pm3_graph.specs.Operation.{IsRun}
use Rattle.pm3_graph.specs.Frame.{AreNewTo}
use Rattle.pm3_access.specs.Access.{AreSound}
use Rattle.pm3_access.specs.Acts.{AreInPlace, left_images, found_images, left_part, found_part}
use Rattle.pm3_access.specs.Holding.{Holding, image_in}
use Rattle.pm3_history.specs.Homes.{IsHome}
use Rattle.pm3_history.specs.Persistent.{persistent_book}
use Rattle.pm3_history.specs.State.{State, all_images, now}
use Rattle.pm3_table.specs.declared.view.Told.{Told}
use Rattle.pm3_table.specs.declared.view.View.{View}

-- After a state, a transaction that holds pages of no space has done these operations, with these answers: what it found are
-- last images, its pages are persistent, the book of the persistent objects fits what is left, and the operations run from
-- what was found to what is left. It has made no object.
pub record Runs (catalog : List Fields) (st : State) (h : Holding) (ops : List (Op × ℕ)) : Type 0 where
  pub alone : h.space ≡ None
  pub places : AreInPlace h
  pub sound : AreSound catalog BASE st.high_page h
  pub fits : FitsImages catalog BASE (persistent_book BASE st) (left_images h)
  pub last : (page : ℕ) (sheet : Sheet) → get (found_images h) page ≡ Some sheet → get (all_images st) page ≡ Some sheet
  pub held : (page : ℕ) → is_some (image_in h page) ≡ true → is_some (get (found_images h) page) ≡ true
  pub homes : (page : ℕ) → is_some (image_in h page) ≡ true → IsHome BASE st page × (2 ≤ page)
  pub run : IsRun catalog ops (found_part catalog BASE st.book h) (left_part catalog BASE st.book h)
  pub old : (g : Part) → AreNewTo g ops

-- the same after what a view has seen of the history from an opening
abbrev pub RunsAfter : Told → View → Holding → State → List (Op × ℕ) → Type 0
RunsAfter told v h st ops = Runs told.opening.catalog (now told.opening.catalog BASE st v.seen) h ops
