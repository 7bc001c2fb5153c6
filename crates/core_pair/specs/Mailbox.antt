-- A definition: the mailbox that starts core 1.
use Rattle.std.specs.Prelude.{◌==◌, ℕ, if◌then◌else◌}

-- where core 1 begins, and what its x2 holds then
pub record MailboxState : Type 0 where
  pub pc : ℕ
  pub sp : ℕ

abbrev pub reset_mailbox : MailboxState
reset_mailbox = record { pc = 0; sp = 0 }

-- what a load of a register gives: pc at offset 0, and sp at 4
abbrev pub mailbox_word : MailboxState → ℕ → ℕ
mailbox_word s offset = if offset == 0 then s.pc else s.sp

-- the state after a store to a register
abbrev pub mailbox_stored : MailboxState → ℕ → ℕ → MailboxState
mailbox_stored s offset word = if offset == 0 then record s { pc = word } else record s { sp = word }
