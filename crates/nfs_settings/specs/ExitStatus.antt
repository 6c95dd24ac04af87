-- How the program ends, and with which status (this server's profile).
use Rattle.std.specs.{Prelude.{◌≡◌, ◌⊎◌, ℕ, Bool, true, false, Result, Ok, Err}, declared.io.ErrorKind.ErrorKind, declared.io.ErrorKind.TheVariants.OutOfMemory}
use Rattle.nfs_serve.specs.{declared.fault.Stop.Stop, declared.fault.Stop.TheVariants.{ReadFailed, WriteFailed}, declared.fault.ReplayFault.ReplayFault}
use Rattle.nfs_settings.specs.{declared.fault.Fault.Fault, declared.settings_file.Bad.Bad, declared.settings_file.Bad.TheVariants.{Text, Memory}}

abbrev pub stop_status : Stop → ℕ
stop_status ReadFailed = 3
stop_status WriteFailed = 3
stop_status stop = 2

abbrev pub fault_status : Fault → ℕ
fault_status Fault.Arguments = 1
fault_status Fault.Settings = 1
fault_status Fault.Start = 1
fault_status (Fault.Replay fault) = stop_status fault.number
fault_status Fault.Accept = 3
fault_status Fault.Flush = 3

abbrev pub exit_status_of : {U : Type 0} → Result U Fault → ℕ
exit_status_of (Ok u) = 0
exit_status_of (Err fault) = fault_status fault

-- a command line that is none, or for which there is no memory
abbrev pub IsOfCommandLine : Fault → Type 0
IsOfCommandLine fault = (fault ≡ Fault.Arguments) ⊎ (fault ≡ Fault.Start)

-- an address that cannot be listened on, or no connection that can be taken
abbrev pub IsOfConnections : Fault → Type 0
IsOfConnections fault = (fault ≡ Fault.Start) ⊎ (fault ≡ Fault.Accept)

-- arguments or settings that cannot be read: for want of memory, or with this fault
abbrev pub unread : ErrorKind → Fault → Fault
unread OutOfMemory fault = Fault.Start
unread kind fault = fault

-- a text that gives no settings
abbrev pub fault_of : Bad → Fault
fault_of Text = Fault.Settings
fault_of Memory = Fault.Start

-- a run, and then whether the flush of its output failed
abbrev pub ending : {U : Type 0} → Result U ReplayFault → Bool → Result U Fault
ending (Ok u) false = Ok u
ending (Ok u) true = Err Fault.Flush
ending (Err fault) failed = Err (Fault.Replay fault)
