use Rattle.alm_moments.proofs.Courses.{images_at}
use Rattle.alm_moments.proofs.laws.a_moment_has_the_images_of_its_device.Goals as goal

pub returns : goal.returns
returns c = images_at
