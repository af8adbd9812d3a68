-- What the program may be asked.
use Rattle.std.specs.Prelude.{◌≤◌, ℕ, ⊤}
use Rattle.alm_program.specs.declared.job.Job.{Job}
use Rattle.alm_program.specs.declared.endpoints.Endpoints.{Endpoints}
use Rattle.alm_program.specs.declared.endpoints.Endpoints.TheVariants.{Ports, Sockets}
use Rattle.alm_program.specs.declared.job.Job.TheVariants.{Tell, Desk, Format, Upgrade, Show, Export, Serve}

-- the least and the greatest port of the first slot
abbrev pub least_port : ℕ
least_port = 1024

abbrev pub greatest_port : ℕ
greatest_port = 65518

-- the most seconds of a patience: a day
abbrev pub most_patience : ℕ
most_patience = 86400

-- the port of the first slot and those of the 17 after it are ports
abbrev pub AreEndpoints : Endpoints → Type 0
AreEndpoints (Ports port) = (least_port ≤ port) × (port ≤ greatest_port)
AreEndpoints (Sockets folder) = ⊤

-- .. if there are ports
abbrev pub IsJob : Job → Type 0
IsJob (Tell about) = ⊤
IsJob (Desk device) = ⊤
IsJob (Format device table version) = ⊤
IsJob (Upgrade device version) = ⊤
IsJob (Show device) = ⊤
IsJob (Export device) = ⊤
IsJob (Serve device endpoints conns patience scrub) = AreEndpoints endpoints
