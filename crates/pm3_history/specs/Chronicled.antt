-- What holds of each state that a lawful history leads to.
use Rattle.std.specs.Prelude.{ℕ, ◌≡◌, true, List, Some, None, is_some}
use Rattle.std.specs.FinMap.{get, contains_key}
use Rattle.pm3_types.specs.Fields.{Fields}
use Rattle.pm3_types.specs.Graph.{PartOf}
use Rattle.pm3_types.specs.Layout.{page_in}
use Rattle.pm3_types.specs.Shown.{FitsImages, shown}
use Rattle.pm3_history.specs.State.{State, all_images}
use Rattle.pm3_history.specs.Lawful.{StayWithin}
use Rattle.pm3_history.specs.Named.{IsNamedOn}

-- The book fits the images, has addresses on their pages alone and all objects of the spaces, the spaces own the pages of their images, what the images
-- show is part of the graph, the page of the roots is one of no space, no object has the name 0, and no reference leads into a
-- space from outside of it.
pub record Chronicled (catalog : List Fields) (base : ℕ) (st : State) : Type 0 where
  pub fits : FitsImages catalog base st.book (all_images st)
  pub placed : (a n : ℕ) → get st.book a ≡ Some n → is_some (get (all_images st) (page_in base a)) ≡ true
  pub named : (a n : ℕ) → IsNamedOn base st.volatile a n → get st.book a ≡ Some n
  pub owned : (page : ℕ) → contains_key st.volatile page ≡ contains_key st.owner page
  pub shows : PartOf (shown catalog base st.book (all_images st)) st.graph
  pub roots : is_some (get st.pages 2) ≡ true
  pub roots_free : get st.owner 2 ≡ None
  pub no_nil : get st.graph.records 0 ≡ None
  pub within : StayWithin catalog base st.owner st.book (all_images st)
