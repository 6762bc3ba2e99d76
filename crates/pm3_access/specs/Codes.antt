-- The states of this crate as codes, by which a model is a value that can be compared.
use Rattle.std.specs.Prelude.{ℕ, List, Option, refl}
use Rattle.std.specs.FinMap as map
use Rattle.std.specs.FinSet as set
use Rattle.std.specs.Coded.{Coded, code_by, coded×, coded_ℕ, coded_list, coded_option}
use Rattle.pm3_page.specs.PageMap.{Images, PageMap, page_image_code, page_map_code}
use Rattle.pm3_access.specs.FreeList.{Numbers, FreeList}
use Rattle.pm3_access.specs.Holding.{SpaceState, HeldImages, HeldSpaceState, Holding}
use Rattle.pm3_access.specs.Parts.{SpaceRest, RestState}

abbrev pub images_code : Coded Images
images_code = map.code coded_ℕ page_image_code

abbrev pub numbers_code : Coded Numbers
numbers_code = set.code coded_ℕ

abbrev pub free_list_code : Coded FreeList
free_list_code =
    code_by (Numbers × (ℕ × ℕ)) (coded× numbers_code (coded× coded_ℕ coded_ℕ)) (λ f. (f.pages, (f.room, f.kept)))
    (λ p. record { pages = p.0; room = p.1.0; kept = p.1.1 }) (λ _. refl)

abbrev pub space_code : Coded SpaceState
space_code =
    code_by (ℕ × (Images × (Numbers × (ℕ × Option ℕ)))) (coded× coded_ℕ (coded× images_code (coded× numbers_code (coded× coded_ℕ (coded_option coded_ℕ)))))
    (λ s. (s.number, (s.images, (s.free, (s.room, s.current)))))
    (λ p. record { number = p.0; images = p.1.0; free = p.1.1.0; room = p.1.1.1.0; current = p.1.1.1.1 }) (λ _. refl)

abbrev pub held_images_code : Coded HeldImages
held_images_code = code_by (Images × Images) (coded× images_code images_code) (λ h. (h.left, h.found)) (λ p. record { left = p.0; found = p.1 }) (λ _. refl)

abbrev pub held_space_code : Coded HeldSpaceState
held_space_code =
    code_by (ℕ × (HeldImages × (Numbers × (ℕ × (Option ℕ × (Option ℕ × List ℕ))))))
    (coded× coded_ℕ (coded× held_images_code (coded× numbers_code (coded× coded_ℕ (coded× (coded_option coded_ℕ) (coded× (coded_option coded_ℕ) (coded_list coded_ℕ)))))))
    (λ s. (s.number, (s.images, (s.free, (s.room, (s.first, (s.current, s.drawn)))))))
    (λ p. record { number = p.0; images = p.1.0; free = p.1.1.0; room = p.1.1.1.0; first = p.1.1.1.1.0; current = p.1.1.1.1.1.0; drawn = p.1.1.1.1.1.1 }) (λ _. refl)

abbrev pub holding_code : Coded Holding
holding_code =
    code_by (HeldImages × Option HeldSpaceState) (coded× held_images_code (coded_option held_space_code))
    (λ h. (h.pages, h.space)) (λ p. record { pages = p.0; space = p.1 }) (λ _. refl)

abbrev pub space_rest_code : Coded SpaceRest
space_rest_code =
    code_by (ℕ × (Images × (Numbers × (ℕ × (Option ℕ × (Option ℕ × List ℕ))))))
    (coded× coded_ℕ (coded× images_code (coded× numbers_code (coded× coded_ℕ (coded× (coded_option coded_ℕ) (coded× (coded_option coded_ℕ) (coded_list coded_ℕ)))))))
    (λ s. (s.number, (s.found, (s.free, (s.room, (s.first, (s.current, s.drawn)))))))
    (λ p. record { number = p.0; found = p.1.0; free = p.1.1.0; room = p.1.1.1.0; first = p.1.1.1.1.0; current = p.1.1.1.1.1.0; drawn = p.1.1.1.1.1.1 }) (λ _. refl)

abbrev pub rest_code : Coded RestState
rest_code =
    code_by (PageMap × (Images × Option SpaceRest)) (coded× page_map_code (coded× images_code (coded_option space_rest_code)))
    (λ r. (r.pages, (r.found, r.space))) (λ p. record { pages = p.0; found = p.1.0; space = p.1.1 }) (λ _. refl)
