-- Which words ask for which job.
use Rattle.std.specs.Prelude.{◌≡◌, ◌+◌, ◌^◌, ℕ, ⊤, List, [], ◌∷◌, Option, Some, None, Result, Ok, Err}
use Rattle.std.specs.Prelude.{codes, if◌then◌else◌, nat_le, option_and_then, option_map}
use Rattle.std.specs.Str.{bytes_eq}
use Rattle.clap.specs.Words.{Kinds, Row, Text, fault_of, first_of, subcommand_of}
use Rattle.alm_codec.specs.declared.version.Version.{Version}
use Rattle.alm_codec.specs.declared.version.Version.TheVariants.{V02, V03}
use Rattle.alm_lines.specs.Line.{number}
use Rattle.alm_program.specs.Commands.{commands}
use Rattle.alm_program.specs.Jobs.{greatest_port, least_port, most_patience}
use Rattle.alm_program.specs.declared.about.About.{About}
use Rattle.alm_program.specs.declared.about.About.TheVariants as itself
use Rattle.alm_program.specs.declared.job.Job.{Job}
use Rattle.alm_program.specs.declared.job.Job.TheVariants as job
use Rattle.alm_program.specs.declared.endpoints.Endpoints.{Endpoints}
use Rattle.alm_program.specs.declared.endpoints.Endpoints.TheVariants as endpoints
use Rattle.alm_program.specs.declared.words_fault.WordsFault.{WordsFault}
use Rattle.alm_program.specs.declared.words_fault.WordsFault.TheVariants.{Usage, OutOfMemory}

-- a server's endpoints: the 18 ports from one on, or the sockets of a folder
pub data At : Type 0 where
  ports : ℕ → At
  sockets : Text → At

abbrev pub endpoints_of : Endpoints → At
endpoints_of (endpoints.Ports port) = ports port
endpoints_of (endpoints.Sockets folder) = sockets folder.now

-- what words ask for, in texts and numbers
pub data JobOrder : Type 0 where
  tell : About → JobOrder
  desk : Option Text → JobOrder
  format : Text → Text → Version → JobOrder
  upgrade : Text → Version → JobOrder
  show : Text → JobOrder
  export : Text → JobOrder
  serve : Text → At → ℕ → Option ℕ → ℕ → JobOrder

-- a job's own order
abbrev pub order_of : Job → JobOrder
order_of (job.Tell about) = tell about
order_of (job.Desk device) = desk (option_map (λ d. d.now) device)
order_of (job.Format device table version) = format device.now table.now version
order_of (job.Upgrade device version) = upgrade device.now version
order_of (job.Show device) = show device.now
order_of (job.Export device) = export device.now
order_of (job.Serve device endpoints conns patience scrub) = serve device.now (endpoints_of endpoints) conns patience scrub

-- the port of the first slot, if the 17 after it are ports as well
abbrev pub port_in : Text → Option ℕ
port_in digits =
    option_and_then (λ port. if nat_le least_port port then Some port else None)
    (number (greatest_port + 1) digits)

-- the endpoints, by the port's digits and the folder: one of the two is named, and not both
abbrev pub endpoints_by : Option Text → Option Text → Option At
endpoints_by (Some digits) None = option_map ports (port_in digits)
endpoints_by None (Some folder) = Some (sockets folder)
endpoints_by None None = None
endpoints_by (Some digits) (Some folder) = None

-- the number of connections, or the seconds between two scrubs: 0 if it is missing
abbrev pub conns_in : Option Text → Option ℕ
conns_in None = Some 0
conns_in (Some digits) = number (2 ^ 32) digits

-- the seconds of a patience, none if it is missing
abbrev pub patience_in : Option Text → Option (Option ℕ)
patience_in None = Some None
patience_in (Some digits) =
    option_and_then (λ seconds. if nat_le 1 seconds then Some (Some seconds) else None)
    (number (most_patience + 1) digits)

-- the device, what a format and an upgrade are asked, and what a server is asked
abbrev pub device_in : List Row → Option Text
device_in = first_of (codes "device")

-- the version of a new device, the usual one if it is missing
abbrev pub version_in : (usual : Version) → Option Text → Option Version
version_in usual None = Some usual
version_in usual (Some name) =
    if bytes_eq name (codes "02") then Some V02
    else (if bytes_eq name (codes "03") then Some V03 else None)

abbrev pub format_by : (device table version : Option Text) → Option JobOrder
format_by device table version =
    option_and_then (λ d. option_and_then (λ t. option_map (format d t) (version_in V02 version)) table) device

abbrev pub format_in : List Row → Option JobOrder
format_in rows = format_by (device_in rows) (first_of (codes "table") rows) (first_of (codes "version") rows)

abbrev pub upgrade_by : (device version : Option Text) → Option JobOrder
upgrade_by device version = option_and_then (λ d. option_map (upgrade d) (version_in V03 version)) device

abbrev pub upgrade_in : List Row → Option JobOrder
upgrade_in rows = upgrade_by (device_in rows) (first_of (codes "version") rows)

abbrev pub serve_by : Option Text → Option At → (conns patience scrub : Option Text) → Option JobOrder
serve_by device at conns patience scrub =
    option_and_then (λ d. option_and_then (λ p. option_and_then (λ n. option_and_then (λ s. option_map (serve d p n s)
    (conns_in scrub)) (patience_in patience)) (conns_in conns)) at) device

abbrev pub serve_in : List Row → Option JobOrder
serve_in rows =
    serve_by (device_in rows) (endpoints_by (first_of (codes "port") rows) (first_of (codes "sockets") rows))
    (first_of (codes "conns") rows) (first_of (codes "patience") rows) (first_of (codes "scrub") rows)

-- what a command is asked by its words
abbrev pub order_at : Text → List Row → Option JobOrder
order_at name rows =
    if bytes_eq name (codes "desk") then Some (desk (device_in rows))
    else (if bytes_eq name (codes "format") then format_in rows
    else (if bytes_eq name (codes "upgrade") then upgrade_in rows
    else (if bytes_eq name (codes "show") then option_map show (device_in rows)
    else (if bytes_eq name (codes "export") then option_map export (device_in rows)
    else (if bytes_eq name (codes "serve") then serve_in rows else None)))))

-- words in which `clap` finds a fault ask for nothing
abbrev pub unless_faulty : Kinds → Option JobOrder → Option JobOrder
unless_faulty [] order = order
unless_faulty (kind ∷ kinds) order = None

-- what the words of a command ask for, the program's name first
unfoldable pub command_in : List Text → Option JobOrder
command_in words =
    unless_faulty (fault_of commands words)
    (option_and_then (λ met. order_at met.0 met.1) (subcommand_of commands words))

-- what is asked of the program itself: by one word alone, after its name
abbrev pub about_by : Text → Option About
about_by word =
    if bytes_eq word (codes "--help") then Some itself.Usage
    else (if bytes_eq word (codes "--version") then Some itself.Version else None)

abbrev pub about_in : List Text → Option About
about_in [] = None
about_in (name ∷ []) = None
about_in (name ∷ word ∷ []) = about_by word
about_in (name ∷ word ∷ next ∷ more) = None

abbrev pub unless_about : Option About → Option JobOrder → Option JobOrder
unless_about (Some about) order = Some (tell about)
unless_about None order = order

-- what the words ask for, the program's name first
abbrev pub order_in : List Text → Option JobOrder
order_in words = unless_about (about_in words) (command_in words)

-- the job of an order, or wrong usage if there is none; or memory ran out
abbrev pub IsJobOf : Option JobOrder → Result Job WordsFault → Type 0
IsJobOf order (Ok job) = order ≡ Some (order_of job)
IsJobOf order (Err Usage) = order ≡ None
IsJobOf order (Err OutOfMemory) = ⊤
