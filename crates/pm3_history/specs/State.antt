-- What stands after a history.
use Rattle.std.specs.Prelude.{ℕ, List, [], ◌∷◌, Option, Some, None, map}
use Rattle.std.specs.Ordering.{nat_cmp}
use Rattle.std.specs.FinMap.{FinMap, empty, from_entries, keys}
use Rattle.pm3_types.specs.Fields.{Fields}
use Rattle.pm3_types.specs.Graph.{Part, with_part}
use Rattle.pm3_types.specs.Shown.{Book, Images, shown}
use Rattle.pm3_history.specs.Laid.{laid, without}
use Rattle.pm3_history.specs.Entry.{Pass, Done, Entry}
use Rattle.pm3_history.specs.Named.{book_by, next_book}

-- The graph; the names of persistent objects and of all objects of the spaces by their addresses; the last image of each
-- page, in the last entry that wrote it or else at the opening; the last images of all spaces, and the space of each of
-- their pages; and the next name and the high page.
pub record State : Type 0 where
  pub graph : Part
  pub book : Book
  pub pages : Images
  pub volatile : Images
  pub owner : FinMap nat_cmp ℕ
  pub next_name : ℕ
  pub high_page : ℕ

-- the spaces' images over those of the pages: a page that was drawn may have an old image in the files
abbrev pub all_images : State → Images
all_images st = laid st.pages st.volatile

-- the state at an opening
abbrev pub opening_state : List Fields → ℕ → Images → Book → ℕ → ℕ → State
opening_state catalog base images book next_name high_page = record {
  graph = shown catalog base book images;
  book = book;
  pages = images;
  volatile = empty;
  owner = empty;
  next_name = next_name;
  high_page = high_page;
}

-- the last images of the spaces after a commit
abbrev pub next_volatile : Images → Option Pass → Images
next_volatile images None = images
next_volatile images (Some p) = laid (without images p.before) p.after

-- each page of the images belongs to the space
abbrev pub owned_by : ℕ → Images → FinMap nat_cmp ℕ
owned_by space images = from_entries (map (λ page. (page, space)) (keys images))

-- the space of each volatile page after a commit
abbrev pub next_owner : FinMap nat_cmp ℕ → Option Pass → FinMap nat_cmp ℕ
next_owner owner None = owner
next_owner owner (Some p) = laid (without owner p.before) (owned_by p.space p.after)

-- the state after an entry
abbrev pub step : ℕ → State → Entry → State
step base st e = record {
  graph = with_part st.graph e.left;
  book = next_book base st.book e.written e.pass;
  pages = laid st.pages e.written;
  volatile = next_volatile st.volatile e.pass;
  owner = next_owner st.owner e.pass;
  next_name = e.next_name;
  high_page = e.high_page;
}

-- the entry that a commit is after a state
abbrev pub entry_after : List Fields → ℕ → State → Done → Entry
entry_after catalog base st d = record {
  tag = d.tag;
  mutator = d.mutator;
  next_name = d.next_name;
  high_page = d.high_page;
  found = shown catalog base st.book d.found;
  left = shown catalog base (book_by base st.book d.pass) d.left;
  written = d.written;
  pass = d.pass;
}

-- the state after a history
abbrev pub now : List Fields → ℕ → State → List Done → State
now catalog base st [] = st
now catalog base st (d ∷ ds) = now catalog base (step base st (entry_after catalog base st d)) ds

-- the graph after entries
abbrev pub graph_after : Part → List Entry → Part
graph_after g [] = g
graph_after g (e ∷ es) = graph_after (with_part g e.left) es

-- the entries that commits are, one after another from a state
abbrev pub entries_of : List Fields → ℕ → State → List Done → List Entry
entries_of catalog base st [] = []
entries_of catalog base st (d ∷ ds) =
    entry_after catalog base st d ∷ entries_of catalog base (step base st (entry_after catalog base st d)) ds
