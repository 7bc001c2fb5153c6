use Rattle.image_tool.proofs.ImageLemmas.{image_fault-image_of, image_from_none, sums_to_zero-header}
use Rattle.image_tool.proofs.WordLemmas.{byte_below}
use Rattle.image_tool.proofs.laws.of_images.Goals as goal

pub returns-clause-faultless : goal.returns-clause-faultless
returns-clause-faultless c = λ room bytes payload fits image. rw image.1 (image_fault-image_of room payload fits image.0)

pub returns-clause-accepted : goal.returns-clause-accepted
returns-clause-accepted c = λ room bytes each none. image_from_none room bytes (λ i _. byte_below bytes i each) none

pub returns-clause-checksum : goal.returns-clause-checksum
returns-clause-checksum c = sums_to_zero-header
