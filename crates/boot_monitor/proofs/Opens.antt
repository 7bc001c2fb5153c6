-- The list of each phase begins with no decision.
use Rattle.std.proofs.Common.{ℕ}
use Rattle.boot_monitor.specs.Phases.{IsReady, IsStarted, todo_in}
use Rattle.boot_monitor.specs.declared.phases.Phase.{Phase}
use Rattle.boot_monitor.specs.declared.phases.Phase.TheVariants.{Unstarted, Opening, SettingUp, AwaitingRoom, Sending, Asking, AwaitingByte, Taking, Storing, Enabling, Selecting, Transferring, AwaitingAnswer, Answering, Fetching, Deselecting, Finishing, Over}
use Rattle.boot_monitor.specs.declared.phases.Purpose.TheVariants.{Command, Header, Payload}
use Rattle.boot_monitor.proofs.Printing.{open-from}
use Rattle.boot_monitor.proofs.Rest.{IsOpen}

pub open-phase : (p : Phase) (ctrl count size : ℕ) → IsStarted p → IsReady p → IsOpen (todo_in p ctrl count size)
open-phase Unstarted ctrl count size s r = elim s [ ]
open-phase Opening ctrl count size s r = tt
open-phase SettingUp ctrl count size s r = tt
open-phase (AwaitingRoom text place) ctrl count size s r = open-from text place r
open-phase (Sending text place) ctrl count size s r = tt
open-phase (Asking setting) ctrl count size s r = tt
open-phase (AwaitingByte purpose) ctrl count size s r = tt
open-phase (Taking Command) ctrl count size s r = tt
open-phase (Taking Header) ctrl count size s r = tt
open-phase (Taking Payload) ctrl count size s r = tt
open-phase (Storing source) ctrl count size s r = tt
open-phase (Enabling errand) ctrl count size s r = tt
open-phase (Selecting frame errand) ctrl count size s r = tt
open-phase (Transferring transfer) ctrl count size s r = tt
open-phase (AwaitingAnswer transfer) ctrl count size s r = tt
open-phase (Answering transfer) ctrl count size s r = tt
open-phase (Fetching page index) ctrl count size s r = tt
open-phase (Deselecting frame errand) ctrl count size s r = tt
open-phase Finishing ctrl count size s r = tt
open-phase Over ctrl count size s r = tt
