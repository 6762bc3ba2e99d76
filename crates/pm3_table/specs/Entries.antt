-- What the table reads of commits.
use Rattle.std.specs.Prelude.{ℕ, ◌+◌, ◌-◌, ◌==◌, ◌&&◌, ◌||◌, Bool, false, not, nat_lt, nat_le, List, [], map, Option, None, Some, slice_index}
use Rattle.std.specs.List.{list_any, range_with_len}
use Rattle.std.specs.FinMap.{get, keys, contains_key}
use Rattle.std.specs.FinSet as set
use Rattle.pm3_core.specs.Naming.{page_in}
use Rattle.pm3_types.specs.Fields.{Fields, is_reference, has_refs}
use Rattle.pm3_types.specs.Layout.{Sheet, is_start}
use Rattle.pm3_types.specs.PageForm.{map_at, tail_at}
use Rattle.pm3_types.specs.Shown.{Images}
use Rattle.pm3_history.specs.Entry.{Done, Pass}
use Rattle.pm3_history.specs.ChronicleLaws.{made_by}

-- the unit is the space of the pass; the spaces are the 32 units before the turn
abbrev pub is_space_of : ℕ → ℕ → Option Pass → Bool
is_space_of turn u None = false
is_space_of turn u (Some p) = u + 32 == turn + p.space

-- the commit names the turn, each page that it writes, and the space of its pass; the turn is the last unit
abbrev pub names_unit : ℕ → Done → ℕ → Bool
names_unit turn e u = (u == turn) || (contains_key e.written u || is_space_of turn u e.pass)

-- the commit writes the page
abbrev pub writes : Done → ℕ → Bool
writes e page = contains_key e.written page

-- the pages from which the pass moves objects
abbrev pub moved_by : Option Pass → List ℕ
moved_by None = []
moved_by (Some p) = map (λ m. page_in m.from) p.moves

abbrev pub moved_of : Done → List ℕ
moved_of e = moved_by e.pass

-- The pass moves from the page, or marked it and did not pin it: what lies there and is live has moved, and what is not live
-- lies on such a page.
abbrev pub touched_by : Option Pass → ℕ → Bool
touched_by None page = false
touched_by (Some p) page =
    list_any (λ m. page_in m.from == page) p.moves || (set.contains p.marked page && not (set.contains p.pinned page))

abbrev pub touches : Done → ℕ → Bool
touches e page = touched_by e.pass page

-- the pass is of space j and leaves it an image of the page
abbrev pub kept_by : ℕ → Option Pass → ℕ → Bool
kept_by j None page = false
kept_by j (Some p) page = (p.space == j) && contains_key p.after page

abbrev pub keeps_in : ℕ → Done → ℕ → Bool
keeps_in j e page = kept_by j e.pass page

-- the commit makes the name: its transaction made an object of that name in the space
abbrev pub makes : Done → ℕ → Bool
makes e n = made_by e.pass n

-- word k of an object's body is a reference, where its type has this map and its tail this length
abbrev pub is_reference_in : Option Fields → ℕ → ℕ → Bool
is_reference_in None len k = false
is_reference_in (Some fields) len k =
    (nat_lt k fields.count && is_reference fields k)
    || ((nat_le fields.count k && has_refs fields.tail) && nat_lt (k - fields.count) len)

-- a reference in the object at a word of a sheet leads to the page
abbrev pub object_refers : List Fields → Sheet → ℕ → ℕ → Bool
object_refers catalog sheet page s =
    is_start sheet s
    && list_any (λ k. is_reference_in (map_at catalog sheet s) (tail_at sheet s) k && (page_in (slice_index sheet.words (s + 2 + k)) == page))
    (range_with_len 0 512)

-- a reference on a page leads to the page, or a root on the page of the roots does
abbrev pub sheet_refers : List Fields → ℕ → ℕ → Option Sheet → Bool
sheet_refers catalog page from None = false
sheet_refers catalog page from (Some sheet) =
    list_any (object_refers catalog sheet page) (range_with_len 0 512)
    || ((from == 2) && list_any (λ slot. page_in (slice_index sheet.words (2 + slot)) == page) (range_with_len 0 16))

-- the page has one of these images, or a reference in them leads to it
abbrev pub images_refer : List Fields → Images → ℕ → Bool
images_refer catalog images page =
    contains_key images page || list_any (λ from. sheet_refers catalog page from (get images from)) (keys images)

abbrev pub pass_refers : List Fields → Option Pass → ℕ → Bool
pass_refers catalog None page = false
pass_refers catalog (Some p) page = images_refer catalog p.after page

-- an image that the commit leaves names the page
abbrev pub refers : List Fields → Done → ℕ → Bool
refers catalog e page = images_refer catalog e.written page || pass_refers catalog e.pass page
