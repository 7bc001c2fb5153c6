-- What a cycle does to the entries in the unit.
use Rattle.std.proofs.Common.{◌≡◌, ◌≤◌, ◌<◌, ◌+◌, ◌-◌, ◌%◌, ◌==◌, ◌&&◌, ℕ, Bool, true, false, List, [], ◌∷◌, ◌++◌, drop, length, Option, None, Some, refl, ap, subst, sym, ◌∙◌, arith, append-nil, length-append, length-drop, nat_lt, if◌then◌else◌}
use Rattle.std.proofs.lemmas.Bool.{eqb-true}
use Rattle.std.proofs.lemmas.Bool.Decides.{nat_tests}
use Rattle.chip_base.specs.Given.{Given, quiet}
use Rattle.chip_base.specs.Messages.{at_either_data, credit_in, done_in, entry_in, reset_in}
use Rattle.chip_base.specs.declared.message.Down.{Down}
use Rattle.chip_base.specs.declared.message.Up.{Up}
use Rattle.chip_base.specs.declared.message.Down.TheVariants.{Reset, Set}
use Rattle.spi_flash.specs.declared.transfer.Entry.{Entry}
use Rattle.spi_flash.specs.declared.transfer.Entry.TheVariants.{Byte, Select}
use Rattle.spi_flash.specs.Flash.{flash_cycle}
use Rattle.spi_flash.specs.SpiCycle.{SpiState, engine, engine_at, exchanged, queued, reset, running, selecting, set_in, spi_cycle}
use Rattle.spi_flash.specs.SpiCounts.{CountsQueue, KeepsEntries, entries_in}

-- what the engine gives of a queue
record Gives (queue : List Entry) (g : Given SpiState) : Type 0 where
  rest : g.unit.queue ≡ drop (credit_in g.up) queue
  none_done : done_in g.up ≡ 0
  one_at_most : credit_in g.up ≤ length queue
  silent : g.event ≡ None

gives_if : (queue : List Entry) (b : Bool) (g h : Given SpiState) → Gives queue g → Gives queue h → Gives queue (if b then g else h)
gives_if queue true g h a b = a
gives_if queue false g h a b = b

gives_quiet : (s : SpiState) → Gives s.queue (quiet s)
gives_quiet s = record { rest = refl; none_done = refl; one_at_most = omega arith; silent = refl }

gives_exchanged : (s : SpiState) (first : Entry) (byte : ℕ) (rest : List Entry) (left : ℕ) → Gives (first ∷ rest) (exchanged (record s { queue = first ∷ rest }) byte rest left)
gives_exchanged s first byte rest left =
    gives_if (first ∷ rest) (left == 1) _ _ (record { rest = refl; none_done = refl; one_at_most = omega arith; silent = refl }) (record { rest = refl; none_done = refl; one_at_most = omega arith; silent = refl })

gives_selecting : (s : SpiState) (on : Bool) (rest : List Entry) → Gives (Select on ∷ rest) (selecting (record s { queue = Select on ∷ rest }) on rest)
gives_selecting s on rest =
    gives_if (Select on ∷ rest) (s.left == 0 && s.enabled) _ _ (record { rest = refl; none_done = refl; one_at_most = omega arith; silent = refl })
    (record { rest = refl; none_done = refl; one_at_most = omega arith; silent = refl })

gives_running : (s : SpiState) (byte : ℕ) (rest : List Entry) → Gives (Byte byte ∷ rest) (running (record s { queue = Byte byte ∷ rest }) byte rest)
gives_running s byte rest =
    gives_if (Byte byte ∷ rest) (s.left == 0) _ _
    (gives_if (Byte byte ∷ rest) s.enabled _ _ (gives_exchanged s (Byte byte) byte rest s.time) (gives_quiet (record s { queue = Byte byte ∷ rest })))
    (gives_exchanged s (Byte byte) byte rest s.left)

gives_engine : (s : SpiState) (queue : List Entry) → Gives queue (engine_at (record s { queue = queue }) queue)
gives_engine s [] = gives_quiet (record s { queue = [] })
gives_engine s (Select on ∷ rest) = gives_selecting s on rest
gives_engine s (Byte byte ∷ rest) = gives_running s byte rest

engine_gives : (s : SpiState) → Gives s.queue (engine s)
engine_gives s = gives_engine (record s { flash = flash_cycle s.flash }) s.queue

-- the queue once a register was set
is_room : (n : ℕ) → n < 16 → nat_lt n 16 ≡ true
is_room n l = grind (arith, nat_tests)

queued_at : (s : SpiState) (entry : Entry) → length s.queue + 1 ≤ 16 → (queued s entry).queue ≡ s.queue ++ entry ∷ []
queued_at s entry l = rw (is_room (length s.queue) (omega (arith, l))) refl

-- the tests on a register, one after another
data Place (reg : ℕ) : Type 0 where
  Control : reg ≡ 0 → Place reg
  Datum : reg ≡ 4 → Place reg
  Selection : reg ≡ 8 → Place reg
  Other : (reg == 0) ≡ false → (reg == 4) ≡ false → (reg == 8) ≡ false → Place reg

place_of : (reg : ℕ) (a b c : Bool) → (reg == 0) ≡ a → (reg == 4) ≡ b → (reg == 8) ≡ c → Place reg
place_of reg true b c p q r = Control (eqb-true reg 0 p)
place_of reg false true c p q r = Datum (eqb-true reg 4 q)
place_of reg false false true p q r = Selection (eqb-true reg 8 r)
place_of reg false false false p q r = Other p q r

abbrev EndsWith : SpiState → ℕ → ℕ → Type 0
EndsWith s word reg = length s.queue + entry_in at_either_data (Some (Set reg word)) ≤ 16 → (set_in s reg word).queue ≡ s.queue ++ entries_in (Some (Set reg word))

set_at : (s : SpiState) (reg word : ℕ) → Place reg → EndsWith s word reg
set_at s reg word (Control e) l = rw e (sym (append-nil s.queue))
set_at s reg word (Datum e) l = subst (EndsWith s word) (sym e) (λ m. queued_at s (Byte (word % 256)) m) l
set_at s reg word (Selection e) l = subst (EndsWith s word) (sym e) (λ m. queued_at s (Select (word % 2 == 1)) m) l
set_at s reg word (Other a b c) l = rw (a, b, c) (sym (append-nil s.queue))

-- an entry that finds room waits last
set_ends : (s : SpiState) (reg word : ℕ) → EndsWith s word reg
set_ends s reg word = set_at s reg word (place_of reg (reg == 0) (reg == 4) (reg == 8) refl refl refl)

entries_length : (reg word : ℕ) → Place reg → length (entries_in (Some (Set reg word))) ≡ entry_in at_either_data (Some (Set reg word))
entries_length reg word (Control e) = rw e refl
entries_length reg word (Datum e) = rw e refl
entries_length reg word (Selection e) = rw e refl
entries_length reg word (Other a b c) = rw (b, c) refl

set_length : (s : SpiState) (reg word : ℕ) → length s.queue + entry_in at_either_data (Some (Set reg word)) ≤ 16
    → length (set_in s reg word).queue ≡ length s.queue + entry_in at_either_data (Some (Set reg word))
set_length s reg word l =
    ap length (set_ends s reg word l) ∙ length-append s.queue (entries_in (Some (Set reg word)))
    ∙ ap (λ n. length s.queue + n) (entries_length reg word (place_of reg (reg == 0) (reg == 4) (reg == 8) refl refl refl))

-- no entry is lost, and they are done in order
pub keeps_entries : (s : SpiState) (now : ℕ) (down : Option Down) → KeepsEntries s down (spi_cycle s now down).unit (spi_cycle s now down).up
unfolding spi_cycle
keeps_entries s now None r l = (engine_gives s).rest ∙ ap (drop (credit_in (engine s).up)) (sym (append-nil s.queue))
keeps_entries s now (Some Reset) r l = absurd (omega arith)
keeps_entries s now (Some (Set reg word)) r l = (engine_gives (set_in s reg word)).rest ∙ ap (drop (credit_in (engine (set_in s reg word)).up)) (set_ends s reg word l)

answers_in : (s : SpiState) (now : ℕ) (down : Option Down) → done_in (spi_cycle s now down).up ≡ reset_in down
unfolding spi_cycle
answers_in s now None = (engine_gives s).none_done
answers_in s now (Some Reset) = refl
answers_in s now (Some (Set reg word)) = (engine_gives (set_in s reg word)).none_done

-- there are no events
pub silent_in : (s : SpiState) (now : ℕ) (down : Option Down) → None ≡ (spi_cycle s now down).event
unfolding spi_cycle
silent_in s now None = sym (engine_gives s).silent
silent_in s now (Some Reset) = refl
silent_in s now (Some (Set reg word)) = sym (engine_gives (set_in s reg word)).silent

counted : (queue rest : List Entry) (credit : ℕ) → rest ≡ drop credit queue → credit ≤ length queue → length rest + credit ≡ length queue
counted queue rest credit e l = let n : length rest ≡ length queue - credit = ap length e ∙ length-drop credit queue in omega (arith, n, l)

-- an entry that came is in the unit until its credit goes up
pub counts_queue : (s : SpiState) (now : ℕ) (down : Option Down) → CountsQueue s down (spi_cycle s now down).unit (spi_cycle s now down).up
unfolding spi_cycle
counts_queue s now None = record {
  entries = λ r l. let n = counted s.queue (engine s).unit.queue (credit_in (engine s).up) (engine_gives s).rest (engine_gives s).one_at_most in omega (arith, n);
  after_reset = λ r. absurd (omega arith);
  answers = answers_in s now None;
}
counts_queue s now (Some Reset) = record { entries = λ r l. absurd (omega arith); after_reset = λ r. refl; answers = refl }
counts_queue s now (Some (Set reg word)) = record {
  entries = λ r l.
      let n = counted (set_in s reg word).queue (engine (set_in s reg word)).unit.queue (credit_in (engine (set_in s reg word)).up) (engine_gives (set_in s reg word)).rest
      (engine_gives (set_in s reg word)).one_at_most in
      let m = set_length s reg word l in
      omega (arith, n, m);
  after_reset = λ r. absurd (omega arith);
  answers = answers_in s now (Some (Set reg word));
}

-- the same by what a cycle gives
pub counts_as : (s : SpiState) (now : ℕ) (down : Option Down) (new : SpiState) (up : Option Up) → new ≡ (spi_cycle s now down).unit → up ≡ (spi_cycle s now down).up
    → CountsQueue s down new up
counts_as s now down new up e f = subst (λ x. CountsQueue s down x up) (sym e) (subst (λ x. CountsQueue s down (spi_cycle s now down).unit x) (sym f) (counts_queue s now down))

pub keeps_as : (s : SpiState) (now : ℕ) (down : Option Down) (new : SpiState) (up : Option Up) → new ≡ (spi_cycle s now down).unit → up ≡ (spi_cycle s now down).up
    → KeepsEntries s down new up
keeps_as s now down new up e f = subst (λ x. KeepsEntries s down x up) (sym e) (subst (λ x. KeepsEntries s down (spi_cycle s now down).unit x) (sym f) (keeps_entries s now down))

-- what a cycle gives, by its message
module _ (s : SpiState) (now : ℕ) (down : Option Down) where
  pub given_none : down ≡ None → engine s ≡ spi_cycle s now down
  unfolding spi_cycle
  given_none e = ap (spi_cycle s now) (sym e)

  pub given_reset : down ≡ Some Reset → reset s ≡ spi_cycle s now down
  unfolding spi_cycle
  given_reset e = ap (spi_cycle s now) (sym e)

  pub given_set : (set : SpiState) (reg word : ℕ) → down ≡ Some (Set reg word) → set ≡ set_in s reg word → engine set ≡ spi_cycle s now down
  unfolding spi_cycle
  given_set set reg word e h = ap engine h ∙ ap (spi_cycle s now) (sym e)
