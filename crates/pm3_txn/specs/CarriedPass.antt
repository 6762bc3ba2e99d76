-- A pass that was carried out over what a transaction holds.
use Rattle.std.specs.Prelude.{ℕ, ◌≡◌, ◌<◌, ◌&&◌, Bool, true, false, not, nat_lt, cond, List, [], ◌∷◌, None, Some}
use Rattle.std.specs.FinMap as map_of
use Rattle.std.specs.FinMap.{contains_key, get}
use Rattle.std.specs.FinSet as set
use Rattle.std.specs.Ordering.{nat_cmp}
use Rattle.pm3_core.specs.declared.naming.TheConstants.{BASE}
use Rattle.pm3_types.specs.PassMoves.{Move}
use Rattle.pm3_types.specs.PassShown.{AreJoined}
use Rattle.pm3_types.specs.Shown.{Images as Sheets}
use Rattle.pm3_page.specs.PageMap.{Images, PageMap}
use Rattle.pm3_page.specs.PageSheets.{AreSoundPages, sheets_of}
use Rattle.pm3_copy.specs.CarriedOut.{IsCarriedOut}
use Rattle.pm3_copy.specs.Spreading.{before_of}
use Rattle.pm3_access.specs.declared.parted.Parted.{Parted}
use Rattle.pm3_access.specs.Parting.{joined}
use Rattle.pm3_access.specs.Parts.{SpaceRest}
use Rattle.pm3_table.specs.declared.view.Deed.{Deed}
use Rattle.pm3_table.specs.declared.view.Told.{Told}
use Rattle.pm3_table.specs.declared.view.View.{View}
use Rattle.pm3_table.specs.Deeds.{IsClearedIn}
use Rattle.pm3_table.specs.Holds.{holds_of, is_in, spans_of}
use Rattle.pm3_table.specs.Reads.{marked_then, read_of}
use Rattle.pm3_table.specs.Telling.{Lawful}
use Rattle.pm3_table.specs.Words.{turn_unit}
use Rattle.pm3_txn.specs.Committing.{IsParted}
use Rattle.pm3_txn.specs.Heaps.{IsBelow}
use Rattle.pm3_txn.specs.Owners.{HasNamesBelow, IsHolding}
use Rattle.pm3_txn.specs.PassCommits.{PassState}
use Rattle.pm3_txn.specs.PassSteps.{AreFresh}
use Rattle.pm3_txn.specs.Pinning.{HasScanned}

-- the parts of a holding with its space
abbrev pub parts : PageMap → PageMap → PageMap → Images → SpaceRest → Parted
parts volatile written others found s = record { volatile = volatile; written = written; rest = record { pages = others; found = found; space = Some s } }

-- What a pass was planned over and what it left: the parts of a holding before it; the words of the scan and the pages that they pin; the
-- images of its fresh pages; and the images of the space and the written ones after it.
pub record Carried : Type 0 where
  pub volatile : PageMap
  pub written : PageMap
  pub others : PageMap
  pub found : Images
  pub space : SpaceRest
  pub words : List ℕ
  pub pins : set.FinSet nat_cmp
  pub fresh : Images
  pub space_now : Images
  pub written_now : Images

abbrev pub parts_of : Carried → Parted
parts_of c = parts c.volatile c.written c.others c.found c.space

-- the pages of images, as a set
abbrev pub pages_in : Images → set.FinSet nat_cmp
pages_in images = set.from_list (map_of.keys images)

-- the names of a list below a number
abbrev pub names_below : ℕ → List ℕ → set.FinSet nat_cmp
names_below next [] = set.empty
names_below next (n ∷ ns) = cond (nat_lt n next) (set.insert (names_below next ns) n) (names_below next ns)

-- the pass over the space of this number with these moves, of a mutator that had drawn these names and has them all below the next one
abbrev pub pass_by : ℕ → ℕ → List ℕ → Carried → List Move → PassState
pass_by number next names c moves = record {
  space = number;
  changed = sheets_of c.written.images;
  marked = pages_in c.volatile.images;
  words = c.words;
  pinned = c.pins;
  fresh = map_of.keys c.fresh;
  moves = moves;
  after = sheets_of c.space_now;
  written = sheets_of c.written_now;
  made = names_below next names;
}

-- the page has a written image now, and was not held alone
abbrev pub is_promoted_in : Carried → ℕ → Bool
is_promoted_in c q = contains_key c.written_now q && not (contains_key c.found q)

-- A view holds these parts, and the pass over them was carried out when this was its log.
pub record IsCarriedBy (told : Told) (v : View) (number next : ℕ) (log : List Deed) (c : Carried) : Type 0 where
  pub below : IsBelow told
  pub small : told.pages < 16385
  pub lawful : Lawful told v.seen
  pub holding : IsHolding told v number (joined (parts_of c))
  pub named : HasNamesBelow next (joined (parts_of c))
  pub parted : IsParted (parts_of c)
  pub scanned : HasScanned told.pages log (contains_key c.volatile.images) c.words c.pins
  pub are_fresh : AreFresh (Some c.space) c.fresh
  pub carried : (all now : Sheets) → AreJoined (sheets_of c.volatile.images) (sheets_of c.written.images) all → AreJoined (sheets_of c.space_now) (sheets_of c.written_now) now
      → IsCarriedOut told.opening.catalog BASE (before_of c.volatile.images c.written.images c.pins) (map_of.keys c.fresh) all now (sheets_of c.space_now) (sheets_of c.written_now)
  pub apart : (q : ℕ) → contains_key c.space_now q ≡ true → get c.written_now q ≡ None
  pub space_sound : AreSoundPages told.opening.catalog BASE told.pages c.space_now
  pub written_sound : AreSoundPages told.opening.catalog BASE told.pages c.written_now

-- A view with the turn, that is another once all these pages are settled as persistent.
pub record HasPromoted (told : Told) (v : View) (log : List Deed) (promoted : ℕ → Bool) (w : View) : Type 0 where
  pub seen : w.seen ≡ v.seen
  pub names : w.names ≡ v.names
  pub turn : holds_of w.holds (turn_unit told.pages) ≡ true
  pub holds : (u : ℕ) → holds_of v.holds u ≡ true → holds_of w.holds u ≡ true
  pub held : (q : ℕ) → promoted q ≡ true → holds_of w.holds q ≡ true
  pub spans : (u q : ℕ) → spans_of w.spans u q ≡ (not (promoted q) && spans_of v.spans u q)
  pub steady : (q : ℕ) → promoted q ≡ true → is_in q w.steady ≡ true
  pub read : (n : ℕ) → read_of w.log n ≡ read_of log n
  pub marked : (q : ℕ) → marked_then w.log q ≡ marked_then log q
  pub cleared : (q : ℕ) → promoted q ≡ false → IsClearedIn told.pages log q → IsClearedIn told.pages w.log q
