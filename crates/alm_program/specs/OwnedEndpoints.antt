-- A server's endpoints.
use Rattle.std.specs.Prelude.{◌≡◌, ◌≤◌, ℕ, string_bytes}
use Rattle.alm_program.specs.Jobs.{greatest_port}
use Rattle.alm_program.specs.Orders.{At, ports, sockets}
use Rattle.alm_program.specs.declared.owned_endpoints.OwnedEndpoints.{OwnedEndpoints}
use Rattle.alm_program.specs.declared.owned_endpoints.OwnedEndpoints.TheVariants.{Ports, Sockets}

-- the first port and the 17 after it are ports
abbrev pub AreOwnedEndpoints : OwnedEndpoints → Type 0
AreOwnedEndpoints endpoints = (port : ℕ) → endpoints ≡ Ports port → port ≤ greatest_port

-- what is asked for
abbrev pub at_of : OwnedEndpoints → At
at_of (Ports port) = ports port
at_of (Sockets folder) = sockets (string_bytes folder)
