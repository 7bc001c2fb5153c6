-- A cycle of the path to the flash: requests of the monitor, the opening of the front, exchanges of bytes, and what the flash holds.
use Rattle.std.proofs.Common.{◌≡◌, ◌≤◌, ◌<◌, ◌^◌, ℕ, zero, suc, ◌+◌, inl, inr, Bool, true, false, List, [], ◌∷◌, ◌++◌, length, replicate, Option, None, Some, refl, sym, ap, ◌∙◌, arith, append_assoc, subst}
use Rattle.std.specs.Prelude.{not}
use Rattle.std.proofs.lemmas.List.{length-replicate}
use Rattle.chip_base.specs.Given.{Given}
use Rattle.chip_base.specs.Messages.{at_either_data, credit_in, done_in, entry_in, reset_in}
use Rattle.chip_base.specs.declared.message.Down.{Down}
use Rattle.chip_base.specs.declared.message.Down.TheVariants.{Reset, Set}
use Rattle.chip_base.specs.declared.message.Up.{Up}
use Rattle.flash_seen.specs.Seen.{NoStarts, Seen, applied, drain, seen, starts, starts_by, step}
use Rattle.flash_seen.specs.World.{Control, Datum, Elsewhere, Idle, IsAllowed, IsIdleBelow, IsReady, IsTold, Openness, Place, Ready, Selection, Sent, Shut, Stage, World, effect, unshut, world_start}
use Rattle.flash_seen.proofs.Flashes.{calm_at_start}
use Rattle.spi_flash.specs.Flash.{FlashState, flash_start, operation_of}
use Rattle.spi_flash.specs.SpiCounts.{entries_in}
use Rattle.spi_flash.specs.SpiCycle.{SpiState, engine, set_in, spi_cycle}
use Rattle.spi_flash.specs.declared.transfer.Entry.{Entry}
use Rattle.spi_flash.specs.declared.transfer.Entry.TheVariants.{Byte, Select}
use Rattle.spi_flash.specs.declared.transfer.Operation.{Operation}
use Rattle.spi_flash.specs.declared.transfer.Transfer.{Transfer}
use Rattle.unit_fronts.specs.Control.{IsWritable}
use Rattle.unit_fronts.specs.SerialRegisters.{SerialRegisters, serial_is_open}
use Rattle.monitor_paths.specs.Always.{Always, IsLink, IsBlank}
use Rattle.monitor_paths.specs.FlashPath.{Closes, FlashPath, Untouched, after_touch, front_after, heard, heard_by, path_heard, sent_by, waiting}
use Rattle.monitor_paths.specs.Laws.{BeginsExchange, EndsExchange, KeepsOpened, Opens, OpensBlank, ReplyFits, ServesRequest, SettlesQuiet, StartsFresh, StaysShut, TellsNothing, ExchangesBytes, touch_at}
use Rattle.soc_words.specs.Link.{all_on, count_on}
use Rattle.monitor_paths.specs.OnLinks.{word_in, words_in}
use Rattle.monitor_paths.specs.Opened.{AreSelections, AtStage, Opened, OpenedAt}
use Rattle.monitor_paths.proofs.Fronts.{Hears, hears, is_closed, is_open, loads, owes_none, owes_some, stores}
use Rattle.soc_words.proofs.Links.{all_more}
use Rattle.monitor_paths.proofs.Links.{behind_none, left_nil, none_carried, none_counted, none_of, right_nil, words_counted}
use Rattle.monitor_paths.proofs.Opened.{opened_before, opened_heard, opened_unit}
use Rattle.monitor_paths.proofs.Requests.{ServesBy, serves, silent}
use Rattle.monitor_paths.proofs.Stays.{done_most, path_of}
use Rattle.monitor_paths.proofs.Unit.{Exchanges, Selects, Waits, Works, cycle_seen, sets, works}

-- the links have places, so that a path may be taken apart

by_links : (P : FlashPath → Type 0) → ((front : SerialRegisters) (d : Option Down) (downs : List (Option Down)) (unit : SpiState) (y : Option Up) (ups : List (Option Up))
    → Always (path_of front (d ∷ downs) unit (y ∷ ups)) → P (path_of front (d ∷ downs) unit (y ∷ ups))) → (p : FlashPath) → Always p → P p
by_links P h p a = by p.down p.up refl refl
  where
    by : (down : List (Option Down)) (up : List (Option Up)) → p.down ≡ down → p.up ≡ up → P p
    by [] up e f = let none : length p.down ≡ 0 = ap length e in absurd (omega (arith, none, a.down_places.one))
    by (d ∷ downs) [] e f = let none : length p.up ≡ 0 = ap length f in absurd (omega (arith, none, a.up_places.one))
    by (d ∷ downs) (y ∷ ups) e f =
        subst (λ down. P (record p { down = down })) (sym e) (subst (λ up. P (record p { down = d ∷ downs; up = up })) (sym f)
        (h p.front d downs p.unit y ups (subst (λ down. Always (record p { down = down; up = y ∷ ups })) e (subst (λ up. Always (record p { up = up })) f a))))

-- the front is open

-- a Reset that arrives at the unit was owed by the front that is open after the arrivals
no_reset : (front : SerialRegisters) (d : Option Down) (downs : List (Option Down)) (unit : SpiState) (y : Option Up) (ups : List (Option Up))
    → Always (path_of front (d ∷ downs) unit (y ∷ ups)) → (heard_by front y).owed ≡ 0 → reset_in d ≡ 0
no_reset front d downs unit y ups a z =
    let owed : front.owed ≡ reset_in d + count_on reset_in downs + (done_in y + count_on done_in ups) = a.owed in
    by_open front.owed refl owed
  where
    by_open : (n : ℕ) → front.owed ≡ n → front.owed ≡ reset_in d + count_on reset_in downs + (done_in y + count_on done_in ups) → reset_in d ≡ 0
    by_open zero e owed = omega (arith, e, owed)
    by_open (suc n) e owed = let left : (heard_by front y).owed + done_in y ≡ front.owed = (hears front y).owed (omega (arith, e)) in omega (arith, left, z, owed)

hears_at : (w : World) (front : SerialRegisters) (d : Option Down) (downs : List (Option Down)) (unit : SpiState) (y : Option Up) (ups : List (Option Up))
    → Always (path_of front (d ∷ downs) unit (y ∷ ups)) → Opened w (path_of front (d ∷ downs) unit (y ∷ ups)) → Opened w (path_heard (path_of front (d ∷ downs) unit (y ∷ ups)))
hears_at w front d downs unit y ups a o =
    let owed : front.owed ≡ reset_in d + count_on reset_in downs + (done_in y + count_on done_in ups) = a.owed in
    let none : front.owed ≡ 0 = o.owed in
    opened_before w _ _ _ _ ups unit.flash (opened_heard w front (unit.queue ++ all_on entries_in (d ∷ downs)) y ups unit.flash (omega (arith, owed, none)) o)

-- what the front sends stands behind all that is on its way
same_entries : (queue : List Entry) (d : Option Down) (downs : List (Option Down)) (sent : Option Down)
    → (queue ++ all_on entries_in (d ∷ downs)) ++ entries_in sent ≡ queue ++ all_on entries_in (d ∷ (downs ++ sent ∷ []))
same_entries queue d downs sent = append_assoc queue (all_on entries_in (d ∷ downs)) (entries_in sent) ∙ ap (λ es. queue ++ es) (sym (all_more entries_in (d ∷ downs) sent))

-- without the place that was emptied
dropped : (w : World) (owing had : ℕ) (recv : List ℕ) (es : List Entry) (ups : List (Option Up)) (f : FlashState)
    → OpenedAt w owing had recv es (None ∷ ups) f → OpenedAt w owing had recv es ups f
dropped w owing had recv es ups f o =
    let front : SerialRegisters = record { kept = 0; overrun = false; received = recv; credits = had; owed = owing } in
    opened_heard w front es None ups f refl o

-- the rest of a cycle in which the front was left so
rest_at : (w : World) (front new : SerialRegisters) (d : Option Down) (downs : List (Option Down)) (unit : SpiState) (y : Option Up) (ups : List (Option Up)) (sent : Option Down) (now : ℕ)
    → Always (path_of front (d ∷ downs) unit (y ∷ ups)) → (heard_by front y).owed ≡ 0
    → OpenedAt w new.owed new.credits new.received ((unit.queue ++ all_on entries_in (d ∷ downs)) ++ entries_in sent) ups unit.flash
    → Opened w (path_of new (downs ++ sent ∷ []) (spi_cycle unit now d).unit (ups ++ (spi_cycle unit now d).up ∷ []))
rest_at w front new d downs unit y ups sent now a z o =
    opened_unit w new (downs ++ sent ∷ []) unit ups now d (no_reset front d downs unit y ups a z) a.calm
    (subst (λ es. OpenedAt w new.owed new.credits new.received es ups unit.flash) (same_entries unit.queue d downs sent) o)

rests_at : (w : World) (now : ℕ) (front : SerialRegisters) (d : Option Down) (downs : List (Option Down)) (unit : SpiState) (y : Option Up) (ups : List (Option Up))
    → Always (path_of front (d ∷ downs) unit (y ∷ ups)) → Opened w (path_heard (path_of front (d ∷ downs) unit (y ∷ ups)))
    → Opened w (after_touch (path_of front (d ∷ downs) unit (y ∷ ups)) now Untouched)
rests_at w now front d downs unit y ups a o =
    rest_at w front (heard_by front y) d downs unit y ups None now a o.owed
    (silent w _ _ _ (unit.queue ++ all_on entries_in (d ∷ downs)) ups unit.flash (dropped w _ _ _ (unit.queue ++ all_on entries_in (d ∷ downs)) ups unit.flash o))

serves_at : (w : World) (now : ℕ) (place : Place) (store : Option ℕ) (reply : ℕ) (front : SerialRegisters) (d : Option Down) (downs : List (Option Down)) (unit : SpiState) (y : Option Up)
    (ups : List (Option Up)) → Always (path_of front (d ∷ downs) unit (y ∷ ups)) → Opened w (path_heard (path_of front (d ∷ downs) unit (y ∷ ups)))
    → IsAllowed w place store → ReplyFits (heard_by front y) place store reply → ServesRequest (path_of front (d ∷ downs) unit (y ∷ ups)) now w place store reply
serves_at w now place store reply front d downs unit y ups a o may fits =
    let p : SerialRegisters = heard_by front y in
    let s : ServesBy w p (unit.queue ++ all_on entries_in (d ∷ downs)) ups unit.flash place store reply
    = serves w p (unit.queue ++ all_on entries_in (d ∷ downs)) ups unit.flash place store reply
    (subst (λ k. IsWritable k) (sym (hears front y).kept) a.writable) (subst (λ k. k < 2 ^ 23) (sym (hears front y).kept) a.small)
    may fits (dropped w _ _ _ (unit.queue ++ all_on entries_in (d ∷ downs)) ups unit.flash o) in
    record {
      told = s.told;
      opened = rest_at (effect w place store reply) front (front_after p (touch_at place store)) d downs unit y ups (sent_by p (touch_at place store)) now a o.owed s.opened;
    }

-- it knows what is on its way after the arrivals too
pub hears_opened : (w : World) (p : FlashPath) → Always p → Opened w p → Opened w (path_heard p)
hears_opened w p a = by_links (λ p. Opened w p → Opened w (path_heard p)) (hears_at w) p a

-- nothing is done with the front
pub rests_opened : (w : World) (p : FlashPath) (now : ℕ) → Always p → Opened w (path_heard p) → Opened w (after_touch p now Untouched)
rests_opened w p now a = by_links (λ p. Opened w (path_heard p) → Opened w (after_touch p now Untouched)) (rests_at w now) p a

-- a request of the monitor
pub serves_request : (w : World) (p : FlashPath) (now : ℕ) (place : Place) (store : Option ℕ) (reply : ℕ) → Always p → Opened w (path_heard p)
    → IsAllowed w place store → ReplyFits (heard p) place store reply → ServesRequest p now w place store reply
serves_request w p now place store reply a = by_links
    (λ p. Opened w (path_heard p) → IsAllowed w place store → ReplyFits (heard p) place store reply → ServesRequest p now w place store reply)
    (serves_at w now place store reply) p a

pub keeps_opened : (p : FlashPath) → KeepsOpened p
keeps_opened p = record {
  hears = λ w a o. hears_opened w p a o;
  rests = λ w now a o. rests_opened w p now a o;
  serves = λ w now place store reply a o may fits. serves_request w p now place store reply a o may fits;
}

-- the front opens

is_unfit : (b : Bool) → not b ≡ true → b ≡ false
is_unfit true e = let bad : ⊥ = cc in elim bad [ ]
is_unfit false e = refl

-- nothing waits in the unit, so its flash is left to itself
still_worked : (s : SpiState) (g : Given SpiState) → Works s g → s.queue ≡ [] → seen g.unit.flash ≡ seen s.flash
still_worked s g (Waits queue flash up) e = ap seen flash ∙ cycle_seen s.flash
still_worked s g (Selects on rest is queue flash up) e = let bad : ⊥ = cc in elim bad [ ]
still_worked s g (Exchanges byte rest is queue flash up) e = let bad : ⊥ = cc in elim bad [ ]

still_unit : (s : SpiState) (now : ℕ) (d : Option Down) (downs : List (Option Down)) → reset_in d ≡ 0 → s.queue ++ all_on entries_in (d ∷ downs) ≡ []
    → seen (spi_cycle s now d).unit.flash ≡ seen s.flash
unfolding spi_cycle
still_unit s now None downs r b = still_worked s (engine s) (works s) (left_nil s.queue (all_on entries_in downs) b)
still_unit s now (Some Reset) downs r b = absurd (omega (arith, r))
still_unit s now (Some (Set reg word)) downs r b =
    let entry : entries_in (Some (Set reg word)) ≡ []
    = left_nil (entries_in (Some (Set reg word))) (all_on entries_in downs) (right_nil s.queue (entries_in (Some (Set reg word)) ++ all_on entries_in downs) b) in
    still_worked (set_in s reg word) (engine (set_in s reg word)) (works (set_in s reg word))
    ((sets s reg word).none entry ∙ left_nil s.queue (entries_in (Some (Set reg word)) ++ all_on entries_in downs) b)
    ∙ ap seen (sets s reg word).flash

opens_at : (front : SerialRegisters) (d : Option Down) (downs : List (Option Down)) (unit : SpiState) (y : Option Up) (ups : List (Option Up)) → Always (path_of front (d ∷ downs) unit (y ∷ ups))
    → 1 ≤ front.owed → (heard_by front y).owed ≡ 0 → Opens (path_of front (d ∷ downs) unit (y ∷ ups))
opens_at front d downs unit y ups a l z =
    let h : Hears front y (heard_by front y) = hears front y in
    let owed : (heard_by front y).owed + done_in y ≡ front.owed = h.owed l in
    let last : done_in y ≡ 1 = omega (arith, owed, z, l, done_most y) in
    let blank : IsBlank (path_of front (d ∷ downs) unit (y ∷ ups)) = a.blank (omega (arith, last)) in
    let no_words : all_on words_in ups ≡ [] = none_of (all_on words_in ups) (words_counted ups ∙ a.no_word.0 last) in
    let no_credits : count_on credit_in ups ≡ 0 = a.no_credit.0 last in
    let sixteen : (heard_by front y).credits ≡ 16 = h.credits l ∙ (a.closed l).1 in
    let none : unit.queue ++ all_on entries_in (d ∷ downs) ≡ [] = blank.entries in
    record {
      opened = record {
        owed = z;
        credits = omega (arith, sixteen, ap length none, no_credits);
        drained = ap (λ es. drain (seen unit.flash) es) none;
        free = λ e. record { none = a.calm.unfit (is_unfit unit.flash.fitted e); starts = subst (λ es. NoStarts (seen unit.flash) es) (sym none) tt };
        stage = record {
          none = h.received l ∙ (a.closed l).0;
          words = no_words;
          selections = subst AreSelections (sym none) tt;
          few = omega (arith, ap length none, no_credits);
        };
      };
      blank = blank;
      still = λ now. still_unit unit now d downs (no_reset front d downs unit y ups a z) none;
    }

-- a front that was closed is open after the arrivals
pub opens_blank : (p : FlashPath) → OpensBlank p
opens_blank p a c o = by_links (λ p. serial_is_open p.front ≡ false → serial_is_open (heard p) ≡ true → Opens p)
    (λ front d downs unit y ups a c o. opens_at front d downs unit y ups a (owes_some front c) (owes_none (heard_by front y) o)) p a c o

-- the front is closed

shut_touch : (p : SerialRegisters) (place : Place) (store : Option ℕ) → 1 ≤ p.owed → front_after p (touch_at place store) ≡ p
shut_touch p Control None l = (loads p 0).same l
shut_touch p Control (Some word) l = (stores p 0 word).same l
shut_touch p Datum None l = (loads p 4).same l
shut_touch p Datum (Some word) l = (stores p 4 word).same l
shut_touch p Selection None l = (loads p 8).same l
shut_touch p Selection (Some word) l = (stores p 8 word).same l
shut_touch p Openness None l = refl
shut_touch p Openness (Some word) l = refl
shut_touch p Elsewhere None l = refl
shut_touch p Elsewhere (Some word) l = refl

record SaysNothing (first : Seen) (place : Place) (store : Option ℕ) (reply : ℕ) : Type 0 where
  told : IsTold (world_start first) place store reply
  same : effect (world_start first) place store reply ≡ world_start first

says_nothing : (first : Seen) (p : SerialRegisters) (place : Place) (store : Option ℕ) (reply : ℕ) → serial_is_open p ≡ false → IsAllowed (world_start first) place store
    → ReplyFits p place store reply → SaysNothing first place store reply
says_nothing first p Control None reply c a fits = record { told = tt; same = refl }
says_nothing first p Control (Some v) reply c a fits = record { told = tt; same = refl }
says_nothing first p Datum None reply c a fits = elim a [ ]
says_nothing first p Datum (Some v) reply c a fits = elim a.0 [ ]
says_nothing first p Selection None reply c a fits = record { told = tt; same = refl }
says_nothing first p Selection (Some v) reply c a fits = elim a [ ]
says_nothing first p Openness None reply c a fits = record { told = tt; same = ap (λ b. record (world_start first) { stage = unshut Shut b }) (fits ∙ c) }
says_nothing first p Openness (Some v) reply c a fits = record { told = tt; same = refl }
says_nothing first p Elsewhere None reply c a fits = record { told = tt; same = refl }
says_nothing first p Elsewhere (Some v) reply c a fits = record { told = tt; same = refl }

-- a Fire closes the front
pub closes_front : (p : FlashPath) (now : ℕ) → serial_is_open (after_touch p now Closes).front ≡ false
closes_front p now = is_closed (after_touch p now Closes).front (omega arith)

-- a request while the front is closed
pub shut_request : (p : FlashPath) (first : Seen) (now : ℕ) (place : Place) (store : Option ℕ) (reply : ℕ) → serial_is_open (heard p) ≡ false
    → IsAllowed (world_start first) place store → ReplyFits (heard p) place store reply → TellsNothing p first now place store reply
shut_request p first now place store reply c a fits =
    let s : SaysNothing first place store reply = says_nothing first (heard p) place store reply c a fits in
    record { told = s.told; same = s.same; front = shut_touch (heard p) place store (owes_some (heard p) c) }

pub stays_shut : (p : FlashPath) → StaysShut p
stays_shut p = record { closes = closes_front p; tells = shut_request p }

-- an exchange of a byte

begins_at : (w : World) (s : Stage) (p : FlashPath) → w.stage ≡ s → IsIdleBelow 3 s → Opened w p → AtStage s w.flash w.free p.front.received (waiting p) p.up p.unit.flash → BeginsExchange p
begins_at w Shut p e l o h = elim l [ ]
begins_at w (Sent before) p e l o h = elim l [ ]
begins_at w (Ready before) p e l o h = elim l [ ]
begins_at w (Idle sent) p e l o h = record {
  is_open = is_open p.front o.owed;
  received = h.none;
  bytes = h.selections;
  answers = h.words;
  credits = let sum : p.front.credits + length (waiting p) + count_on credit_in p.up ≡ 16 = o.credits in omega (arith, sum, h.few, l);
}

ends_at : (w : World) (s : Stage) (p : FlashPath) → w.stage ≡ s → IsReady s → Opened w p → AtStage s w.flash w.free p.front.received (waiting p) p.up p.unit.flash → EndsExchange w p
ends_at w Shut p e l o h = elim l [ ]
ends_at w (Idle sent) p e l o h = elim l [ ]
ends_at w (Sent before) p e l o h = elim l [ ]
ends_at w (Ready before) p e l o h = record {
  before = before;
  stage = e;
  word = h.word;
  received = h.one;
  answer = h.given.answer;
  entries = h.done;
  answers = h.words;
  credits = let sum : p.front.credits + length (waiting p) + count_on credit_in p.up ≡ 16 = o.credits in
      let none : length (waiting p) ≡ 0 = ap length h.done in omega (arith, sum, none, h.credits);
}

pub exchanges_bytes : (w : World) (p : FlashPath) → ExchangesBytes w p
exchanges_bytes w p = record {
  begins = λ word o may. begins_at w w.stage p refl may.0 o o.stage;
  ends = λ o may. ends_at w w.stage p refl may o o.stage;
}

-- what the flash holds

fitted_step : (s : Seen) (entry : Entry) (fitted : Bool) → s.fitted ≡ fitted → (step s entry).fitted ≡ s.fitted
fitted_step s entry false e = rw e refl
fitted_step s (Byte byte) true e = rw e refl
fitted_step s (Select true) true e = rw e refl
fitted_step s (Select false) true e = rw e refl

fitted_drain : (s : Seen) (entries : List Entry) → (drain s entries).fitted ≡ s.fitted
fitted_drain s [] = refl
fitted_drain s (entry ∷ rest) = fitted_drain (step s entry) rest ∙ fitted_step s entry s.fitted refl

cells_deselect : (operation : Option Operation) (writable : Bool) (cells : List ℕ)
    → starts_by writable operation ≡ false → applied operation writable cells ≡ cells
cells_deselect None writable cells e = refl
cells_deselect (Some operation) true cells e = absurd (cc e)
cells_deselect (Some operation) false cells e = refl

cells_step_by : (fitted : Bool) (cells : List ℕ) (writable : Bool) (transfer : Transfer) (entry : Entry)
    → starts (record { fitted = fitted; cells = cells; writable = writable; transfer = transfer }) entry ≡ false
    → (step (record { fitted = fitted; cells = cells; writable = writable; transfer = transfer }) entry).cells ≡ cells
cells_step_by false cells writable transfer entry e = refl
cells_step_by true cells writable transfer (Byte byte) e = refl
cells_step_by true cells writable transfer (Select true) e = refl
cells_step_by true cells writable transfer (Select false) e = cells_deselect (operation_of transfer) writable cells e

-- entries that start no operation leave the bytes as they are
cells_drain : (s : Seen) (entries : List Entry) → NoStarts s entries → (drain s entries).cells ≡ s.cells
cells_drain s [] n = refl
cells_drain s (entry ∷ rest) n = cells_drain (step s entry) rest n.1 ∙ cells_step_by s.fitted s.cells s.writable s.transfer entry n.0

no_entry : (entries : List Entry) (credits : ℕ) → length entries + credits ≤ 0 → entries ≡ []
no_entry [] credits l = refl
no_entry (entry ∷ rest) credits l = absurd (omega (arith, l))

pub settles_quiet : (w : World) (p : FlashPath) → SettlesQuiet w p
settles_quiet w p o (inl free) = record {
  cells = sym (cells_drain (seen p.unit.flash) (waiting p) (o.free free).starts) ∙ ap (λ s. s.cells) o.drained;
  fitted = sym (fitted_drain (seen p.unit.flash) (waiting p)) ∙ ap (λ s. s.fitted) o.drained;
}
settles_quiet w p o (inr idle) =
    let at_idle : AtStage (Idle 0) w.flash w.free p.front.received (waiting p) p.up p.unit.flash
    = subst (λ s. AtStage s w.flash w.free p.front.received (waiting p) p.up p.unit.flash) idle o.stage in
    let none : waiting p ≡ [] = no_entry (waiting p) _ at_idle.few in
    let same : seen p.unit.flash ≡ w.flash = sym (ap (λ es. drain (seen p.unit.flash) es) none) ∙ o.drained in
    record { cells = ap (λ s. s.cells) same; fitted = ap (λ s. s.fitted) same }

-- power-on

empty_places : {M : Type 0} (n : ℕ) → 1 ≤ n → n ≤ 4096 → IsLink (replicate {A = Option M} n None)
empty_places {M} n l m = let places : length (replicate {A = Option M} n None) ≡ n = length-replicate {A = Option M} n None in record { one = omega (arith, places, l); most = omega (arith, places, m) }

pub starts_fresh : (fitted : Bool) (down up : ℕ) → StartsFresh fitted down up
starts_fresh fitted down up l m k n =
    let no_resets : count_on reset_in (replicate down None) ≡ 0 = none_counted reset_in refl down in
    let no_dones : count_on done_in (replicate up None) ≡ 0 = none_counted done_in refl up in
    let no_credits : count_on credit_in (replicate up None) ≡ 0 = none_counted credit_in refl up in
    let none : all_on entries_in (replicate down None) ≡ [] = none_carried entries_in refl down in
    record {
      always = record {
        down_places = empty_places down l m;
        up_places = empty_places up k n;
        owed = omega (arith, no_resets, no_dones);
        writable = refl;
        small = omega arith;
        closed = λ e. absurd (omega (arith, e));
        calm = calm_at_start fitted;
        behind_reset = behind_none reset_in (entry_in at_either_data) (replicate down None) no_resets;
        no_credit = behind_none done_in credit_in (replicate up None) no_dones;
        no_word = behind_none done_in word_in (replicate up None) no_dones;
        blank = λ e. absurd (omega (arith, e, no_dones));
      };
      opened = record {
        owed = refl;
        credits = omega (arith, ap length none, no_credits);
        drained = ap (λ es. drain (seen (flash_start fitted)) es) none;
        free = λ e. record { none = refl; starts = subst (λ es. NoStarts (seen (flash_start fitted)) es) (sym none) tt };
        stage = record {
          none = refl;
          words = none_carried words_in refl up;
          selections = subst AreSelections (sym none) tt;
          few = omega (arith, ap length none, no_credits);
        };
      };
    }
