use Rattle.std.specs.FinMap.{insert, empty}
use Rattle.pm3_page.specs.PageSheets.{sheets_of}
use Rattle.pm3_access.specs.Acts.{left_images, found_images}
use Rattle.pm3_access.specs.Holding.{admitted, with_held_space}
use Rattle.pm3_access.proofs.JoinedParts.{shown_joined, fits_joined}
use Rattle.pm3_access.proofs.AdmitSteps.{left_joined, found_joined, space_left_joined, space_found_joined}
use Rattle.pm3_access.proofs.laws.admit_law.Goals as goal

pub returns-clause-left : goal.returns-clause-left
returns-clause-left c = λ catalog base book h image absent.
    shown_joined catalog base book (left_images h) (insert empty image.page image.sheet) (left_images (admitted h image)) (left_joined h image absent)

pub returns-clause-found : goal.returns-clause-found
returns-clause-found c = λ catalog base book h image places absent.
    shown_joined catalog base book (found_images h) (insert empty image.page image.sheet) (found_images (admitted h image)) (found_joined h image absent places)

pub returns-clause-fits : goal.returns-clause-fits
returns-clause-fits c = λ catalog base book h image absent fits also.
    fits_joined catalog base book (left_images h) (insert empty image.page image.sheet) (left_images (admitted h image)) (left_joined h image absent) fits also

pub returns-clause-space_left : goal.returns-clause-space_left
returns-clause-space_left c = λ catalog base book h space none absent.
    shown_joined catalog base book (left_images h) (sheets_of space.images) (left_images (with_held_space h space)) (space_left_joined h space none absent)

pub returns-clause-space_found : goal.returns-clause-space_found
returns-clause-space_found c = λ catalog base book h space places none absent.
    shown_joined catalog base book (found_images h) (sheets_of space.images) (found_images (with_held_space h space)) (space_found_joined h space none absent places)

pub returns-clause-space_fits : goal.returns-clause-space_fits
returns-clause-space_fits c = λ catalog base book h space none absent fits also.
    fits_joined catalog base book (left_images h) (sheets_of space.images) (left_images (with_held_space h space)) (space_left_joined h space none absent) fits also
