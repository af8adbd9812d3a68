-- A device that encodes one plant.
use Rattle.std.specs.Prelude.{ℕ, List}
use Rattle.alm_disk.specs.Device.{DeviceState, IsImage}
use Rattle.alm_model.specs.Plant.{Condensed}
use Rattle.alm_keeper.specs.AsStore.{StandsFor}

-- whatever a crash leaves of the device encodes the plant
abbrev pub StandOnly : DeviceState → Condensed → Type 0
StandOnly state plant = (image : List ℕ) → IsImage state image → StandsFor image plant
