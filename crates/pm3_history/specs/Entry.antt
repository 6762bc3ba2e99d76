-- What one commit adds to the history: as images of pages, and as parts of a graph.
use Rattle.std.specs.Prelude.{ℕ, Bool, List, Option, None, refl}
use Rattle.std.specs.Ordering.{nat_cmp}
use Rattle.std.specs.FinMap as map
use Rattle.std.specs.FinSet as set
use Rattle.std.specs.Coded.{Coded, code_by, coded×, coded_ℕ, coded_bool, coded_list, coded_option}
use Rattle.pm3_types.specs.Layout.{Sheet}
use Rattle.pm3_types.specs.Graph.{Part}
use Rattle.pm3_types.specs.Shown.{Images}

-- an object went from one address to another under its name
pub record Move : Type 0 where
  pub name : ℕ
  pub from : ℕ
  pub to : ℕ

-- The pass of a commit that holds its space: the space, its images and the changed persistent images just before the pass,
-- the marked pages, the words that it read, one for each place in order, the pinned pages, the moves, the space's images
-- after it, and the names of the objects that its transaction made.
pub record Pass : Type 0 where
  pub space : ℕ
  pub before : Images
  pub changed : Images
  pub marked : set.FinSet nat_cmp
  pub words : List ℕ
  pub pinned : set.FinSet nat_cmp
  pub moves : List Move
  pub after : Images
  pub made : set.FinSet nat_cmp

-- A commit as its mutator has it: the tag, the mutator, the next name and the high page of its record, the persistent images
-- that it found and those that it leaves, the images that it writes, and its pass or none.
pub record Done : Type 0 where
  pub tag : ℕ
  pub mutator : ℕ
  pub next_name : ℕ
  pub high_page : ℕ
  pub found : Images
  pub left : Images
  pub written : Images
  pub pass : Option Pass

-- a commit as it is told over graphs: the parts found and left in place of the images
pub record Entry : Type 0 where
  pub tag : ℕ
  pub mutator : ℕ
  pub next_name : ℕ
  pub high_page : ℕ
  pub found : Part
  pub left : Part
  pub written : Images
  pub pass : Option Pass

-- codes, by which clauses tell commits apart
abbrev pub sheet_code : Coded Sheet
sheet_code =
    code_by (List ℕ × List Bool) (coded× (coded_list coded_ℕ) (coded_list coded_bool)) (λ s. (s.words, s.starts))
    (λ p. record { words = p.0; starts = p.1 }) (λ _. refl)

abbrev pub images_code : Coded Images
images_code = map.code coded_ℕ sheet_code

abbrev pub numbers_code : Coded (set.FinSet nat_cmp)
numbers_code = set.code coded_ℕ

abbrev pub move_code : Coded Move
move_code =
    code_by (ℕ × (ℕ × ℕ)) (coded× coded_ℕ (coded× coded_ℕ coded_ℕ)) (λ m. (m.name, (m.from, m.to)))
    (λ p. record { name = p.0; from = p.1.0; to = p.1.1 }) (λ _. refl)

abbrev pub pass_code : Coded Pass
pass_code =
    code_by (ℕ × (Images × (Images × (set.FinSet nat_cmp × (List ℕ × (set.FinSet nat_cmp × (List Move × (Images × set.FinSet nat_cmp))))))))
    (coded× coded_ℕ (coded× images_code (coded× images_code (coded× numbers_code (coded× (coded_list coded_ℕ) (coded× numbers_code (coded× (coded_list move_code) (coded× images_code numbers_code))))))))
    (λ p. (p.space, (p.before, (p.changed, (p.marked, (p.words, (p.pinned, (p.moves, (p.after, p.made)))))))))
    (λ t. record { space = t.0; before = t.1.0; changed = t.1.1.0; marked = t.1.1.1.0; words = t.1.1.1.1.0; pinned = t.1.1.1.1.1.0; moves = t.1.1.1.1.1.1.0; after = t.1.1.1.1.1.1.1.0; made = t.1.1.1.1.1.1.1.1 })
    (λ _. refl)

abbrev pub done_code : Coded Done
done_code =
    code_by (ℕ × (ℕ × (ℕ × (ℕ × (Images × (Images × (Images × Option Pass)))))))
    (coded× coded_ℕ (coded× coded_ℕ (coded× coded_ℕ (coded× coded_ℕ (coded× images_code (coded× images_code (coded× images_code (coded_option pass_code))))))))
    (λ d. (d.tag, (d.mutator, (d.next_name, (d.high_page, (d.found, (d.left, (d.written, d.pass))))))))
    (λ t. record { tag = t.0; mutator = t.1.0; next_name = t.1.1.0; high_page = t.1.1.1.0; found = t.1.1.1.1.0; left = t.1.1.1.1.1.0; written = t.1.1.1.1.1.1.0; pass = t.1.1.1.1.1.1.1 })
    (λ _. refl)

-- a commit of nothing
abbrev pub blank_done : Done
blank_done = record {
  tag = 0;
  mutator = 0;
  next_name = 0;
  high_page = 0;
  found = map.empty;
  left = map.empty;
  written = map.empty;
  pass = None;
}
