-- What holds whoever runs: a cycle keeps it.
use Rattle.std.proofs.Common.{◌≡◌, ◌≤◌, ◌<◌, ◌^◌, ℕ, ◌+◌, ◌⊎◌, inl, inr, Bool, true, false, List, [], ◌∷◌, ◌++◌, length, Option, None, Some, refl, sym, ap, ◌∙◌, arith, length-append, subst}
use Rattle.chip_base.specs.Given.{Given}
use Rattle.chip_base.specs.Messages.{at_either_data, credit_in, done_in, done_up, entry_in, reset_in}
use Rattle.chip_base.specs.declared.message.Down.{Down}
use Rattle.chip_base.specs.declared.message.Down.TheVariants.{Reset, Set}
use Rattle.chip_base.specs.declared.message.Up.{Up}
use Rattle.flash_seen.specs.Laws.{IsCalm}
use Rattle.flash_seen.proofs.Flashes.{stays_calm}
use Rattle.spi_flash.specs.Flash.{flash_cycle}
use Rattle.spi_flash.specs.SpiCounts.{entries_in}
use Rattle.spi_flash.specs.SpiCycle.{SpiState, engine, reset, set_in, spi_cycle}
use Rattle.spi_flash.specs.declared.transfer.Entry.{Entry}
use Rattle.spi_flash.specs.declared.transfer.Entry.TheVariants.{Byte, Select}
use Rattle.spi_flash.specs.declared.transfer.Transfer.TheVariants.{Idle}
use Rattle.unit_fronts.specs.Control.{IsWritable}
use Rattle.unit_fronts.specs.SerialRegisters.{SerialRegisters, serial_closed}
use Rattle.monitor_paths.specs.Always.{Always, IsLink}
use Rattle.monitor_paths.specs.FlashPath.{Closes, FlashPath, Loads, Stores, Touch, Untouched, after_touch, front_after, heard_by, sent_by}
use Rattle.monitor_paths.specs.Laws.{StaysAlways}
use Rattle.soc_words.specs.Link.{NoneBehind, all_on, count_on}
use Rattle.monitor_paths.specs.OnLinks.{word_in}
use Rattle.monitor_paths.proofs.Fronts.{Hears, Touched, hears, loads, stores, untouched, zero_or}
use Rattle.soc_words.proofs.Links.{behind_more, count_more, count_most}
use Rattle.monitor_paths.proofs.Links.{both_nil, entries_counted, left_nil, none_of, nothing_more, right_nil}
use Rattle.monitor_paths.proofs.Unit.{Exchanges, Selects, SetsIn, Waits, Works, cycle_seen, sets, works}

-- the same in the course of a cycle, when a link may have one message more or less than it has places
pub record Half (front : SerialRegisters) (downs : List (Option Down)) (unit : SpiState) (ups : List (Option Up)) : Type 0 where
  pub owed : front.owed ≡ count_on reset_in downs + count_on done_in ups
  pub writable : IsWritable front.kept
  pub small : front.kept < 2 ^ 23
  pub closed : 1 ≤ front.owed → (front.received ≡ []) × (front.credits ≡ 16)
  pub calm : IsCalm unit.flash
  pub behind_reset : NoneBehind reset_in (entry_in at_either_data) downs
  pub no_credit : NoneBehind done_in credit_in ups
  pub no_word : NoneBehind done_in word_in ups
  pub blank : 1 ≤ count_on done_in ups → unit.queue ++ all_on entries_in downs ≡ []
  pub idle : 1 ≤ count_on done_in ups → unit.flash.transfer ≡ Idle

-- an arrival

pub half_heard : (p : SerialRegisters) (downs : List (Option Down)) (unit : SpiState) (y : Option Up) (ups : List (Option Up)) → Half p downs unit (y ∷ ups)
    → Half (heard_by p y) downs unit ups
half_heard p downs unit y ups a =
    let h : Hears p y (heard_by p y) = hears p y in
    let owed : p.owed ≡ count_on reset_in downs + (done_in y + count_on done_in ups) = a.owed in
    record {
      owed = elim (zero_or p.owed) as (λ _. (heard_by p y).owed ≡ count_on reset_in downs + count_on done_in ups) [
        | inl z ↦ let s : (heard_by p y).owed ≡ 0 = h.still z in omega (arith, s, z, owed)
        | inr l ↦ let s : (heard_by p y).owed + done_in y ≡ p.owed = h.owed l in omega (arith, s, owed)
      ];
      writable = subst (λ k. IsWritable k) (sym h.kept) a.writable;
      small = subst (λ k. k < 2 ^ 23) (sym h.kept) a.small;
      closed = λ l. elim (zero_or p.owed) as (λ _. ((heard_by p y).received ≡ []) × ((heard_by p y).credits ≡ 16)) [
        | inl z ↦ let s : (heard_by p y).owed ≡ 0 = h.still z in absurd (omega (arith, s, l))
        | inr m ↦ (h.received m ∙ (a.closed m).0, h.credits m ∙ (a.closed m).1)
      ];
      calm = a.calm;
      behind_reset = a.behind_reset;
      no_credit = a.no_credit.1;
      no_word = a.no_word.1;
      blank = λ l. a.blank (omega (arith, l));
      idle = λ l. a.idle (omega (arith, l));
    }

-- a touch

pub half_touched : (p : SerialRegisters) (downs : List (Option Down)) (unit : SpiState) (ups : List (Option Up)) (sent : Option Down) (new : SerialRegisters)
    → Touched p sent new → Half p downs unit ups → Half new (downs ++ sent ∷ []) unit ups
half_touched p downs unit ups sent new h a =
    let owed : p.owed ≡ count_on reset_in downs + count_on done_in ups = a.owed in
    let more : count_on reset_in (downs ++ sent ∷ []) ≡ count_on reset_in downs + reset_in sent = count_more reset_in downs sent in
    let same : new.owed ≡ p.owed = h.owed in
    record {
      owed = omega (arith, owed, more, same, h.no_reset);
      writable = h.writable a.writable;
      small = h.small a.small;
      closed = λ l. let m : 1 ≤ p.owed = omega (arith, l, same) in subst (λ q. (q.received ≡ []) × (q.credits ≡ 16)) (sym (h.same m)) (a.closed m);
      calm = a.calm;
      behind_reset = behind_more reset_in (entry_in at_either_data) downs sent
          (elim (zero_or p.owed) as (λ _. (entry_in at_either_data sent ≡ 0) ⊎ (count_on reset_in downs ≡ 0)) [
            | inl z ↦ inr (omega (arith, z, owed))
            | inr l ↦ inl (ap (entry_in at_either_data) (h.silent l))
          ]) a.behind_reset;
      no_credit = a.no_credit;
      no_word = a.no_word;
      blank = λ l. let m : 1 ≤ p.owed = omega (arith, l, owed) in
          ap (λ es. unit.queue ++ es) (nothing_more entries_in downs sent (ap entries_in (h.silent m))) ∙ a.blank l;
      idle = a.idle;
    }

-- a Fire

pub half_closed : (p : SerialRegisters) (downs : List (Option Down)) (unit : SpiState) (ups : List (Option Up)) → p.owed < 8192 → Half p downs unit ups
    → Half (serial_closed p) (downs ++ Some Reset ∷ []) unit ups
half_closed p downs unit ups few a =
    let owed : p.owed ≡ count_on reset_in downs + count_on done_in ups = a.owed in
    let more : count_on reset_in (downs ++ Some Reset ∷ []) ≡ count_on reset_in downs + 1 = count_more reset_in downs (Some Reset) in
    let one : (serial_closed p).owed ≡ p.owed + 1 = omega (arith, few) in
    record {
      owed = omega (arith, owed, more, one);
      writable = refl;
      small = omega arith;
      closed = λ l. (refl, refl);
      calm = a.calm;
      behind_reset = behind_more reset_in (entry_in at_either_data) downs (Some Reset) (inl refl) a.behind_reset;
      no_credit = a.no_credit;
      no_word = a.no_word;
      blank = λ l. ap (λ es. unit.queue ++ es) (nothing_more entries_in downs (Some Reset) refl) ∙ a.blank l;
      idle = a.idle;
    }

pub half_touch : (touch : Touch) (p : SerialRegisters) (downs : List (Option Down)) (unit : SpiState) (ups : List (Option Up)) → p.owed < 8192 → Half p downs unit ups
    → Half (front_after p touch) (downs ++ sent_by p touch ∷ []) unit ups
half_touch Untouched p downs unit ups few a = half_touched p downs unit ups None p (untouched p) a
half_touch (Loads reg) p downs unit ups few a = half_touched p downs unit ups None _ (loads p reg) a
half_touch (Stores reg word) p downs unit ups few a = half_touched p downs unit ups _ _ (stores p reg word) a
half_touch Closes p downs unit ups few a = half_closed p downs unit ups few a

-- a message reaches the unit

half_set : (p : SerialRegisters) (downs : List (Option Down)) (unit : SpiState) (ups : List (Option Up)) (reg word : ℕ) → Half p (Some (Set reg word) ∷ downs) unit ups
    → Half p downs (set_in unit reg word) ups
half_set p downs unit ups reg word a =
    let h : SetsIn unit reg word (set_in unit reg word) = sets unit reg word in
    let owed : p.owed ≡ 0 + count_on reset_in downs + count_on done_in ups = a.owed in
    record {
      owed = omega (arith, owed);
      writable = a.writable;
      small = a.small;
      closed = a.closed;
      calm = subst IsCalm (sym h.flash) a.calm;
      behind_reset = a.behind_reset.1;
      no_credit = a.no_credit;
      no_word = a.no_word;
      blank = λ l.
          let none : unit.queue ++ (entries_in (Some (Set reg word)) ++ all_on entries_in downs) ≡ [] = a.blank l in
          let rest : entries_in (Some (Set reg word)) ++ all_on entries_in downs ≡ [] = right_nil unit.queue (entries_in (Some (Set reg word)) ++ all_on entries_in downs) none in
          both_nil (set_in unit reg word).queue (all_on entries_in downs)
          (h.none (left_nil (entries_in (Some (Set reg word))) (all_on entries_in downs) rest) ∙ left_nil unit.queue (entries_in (Some (Set reg word)) ++ all_on entries_in downs) none)
          (right_nil (entries_in (Some (Set reg word))) (all_on entries_in downs) rest);
      idle = λ l. ap (λ f. f.transfer) h.flash ∙ a.idle l;
    }

half_none : (p : SerialRegisters) (downs : List (Option Down)) (unit : SpiState) (ups : List (Option Up)) → Half p (None ∷ downs) unit ups → Half p downs unit ups
half_none p downs unit ups a =
    let owed : p.owed ≡ 0 + count_on reset_in downs + count_on done_in ups = a.owed in
    record {
      owed = omega (arith, owed);
      writable = a.writable;
      small = a.small;
      closed = a.closed;
      calm = a.calm;
      behind_reset = a.behind_reset.1;
      no_credit = a.no_credit;
      no_word = a.no_word;
      blank = a.blank;
      idle = a.idle;
    }

-- the unit's cycle

no_done : (s : SpiState) (downs : List (Option Down)) (ups : List (Option Up)) (first : Entry) (rest : List Entry) → s.queue ≡ first ∷ rest
    → (1 ≤ count_on done_in ups → s.queue ++ all_on entries_in downs ≡ []) → count_on done_in ups ≡ 0
no_done s downs ups first rest is blank = elim (zero_or (count_on done_in ups)) as (λ _. count_on done_in ups ≡ 0) [
  | inl z ↦ z
  | inr l ↦ let empty : s.queue ≡ [] = left_nil s.queue (all_on entries_in downs) (blank l) in let bad : ⊥ = cc in elim bad [ ]
]

half_worked : (p : SerialRegisters) (downs : List (Option Down)) (s : SpiState) (ups : List (Option Up)) (g : Given SpiState) → Works s g → Half p downs s ups
    → Half p downs g.unit (ups ++ g.up ∷ [])
half_worked p downs s ups g (Waits queue flash up) a =
    let owed : p.owed ≡ count_on reset_in downs + count_on done_in ups = a.owed in
    let more : count_on done_in (ups ++ g.up ∷ []) ≡ count_on done_in ups + done_in g.up = count_more done_in ups g.up in
    let none : done_in g.up ≡ 0 = ap done_in up in
    record {
      owed = omega (arith, owed, more, none);
      writable = a.writable;
      small = a.small;
      closed = a.closed;
      calm = subst IsCalm (sym flash) ((stays_calm s.flash).cycle a.calm);
      behind_reset = a.behind_reset;
      no_credit = behind_more done_in credit_in ups g.up (inl (ap credit_in up)) a.no_credit;
      no_word = behind_more done_in word_in ups g.up (inl (ap word_in up)) a.no_word;
      blank = λ l. let old : 1 ≤ count_on done_in ups = omega (arith, l, more, none) in ap (λ es. es ++ all_on entries_in downs) queue ∙ a.blank old;
      idle = λ l. let old : 1 ≤ count_on done_in ups = omega (arith, l, more, none) in
          ap (λ f. f.transfer) flash ∙ ap (λ s. s.transfer) (cycle_seen s.flash) ∙ a.idle old;
    }
half_worked p downs s ups g (Selects on rest is queue flash up) a =
    let none : count_on done_in ups ≡ 0 = no_done s downs ups (Select on) rest is a.blank in
    let owed : p.owed ≡ count_on reset_in downs + count_on done_in ups = a.owed in
    let more : count_on done_in (ups ++ g.up ∷ []) ≡ count_on done_in ups + done_in g.up = count_more done_in ups g.up in
    let no_more : done_in g.up ≡ 0 = ap done_in up in
    record {
      owed = omega (arith, owed, more, no_more);
      writable = a.writable;
      small = a.small;
      closed = a.closed;
      calm = subst IsCalm (sym flash) ((stays_calm (flash_cycle s.flash)).selection on ((stays_calm s.flash).cycle a.calm));
      behind_reset = a.behind_reset;
      no_credit = behind_more done_in credit_in ups g.up (inr none) a.no_credit;
      no_word = behind_more done_in word_in ups g.up (inr none) a.no_word;
      blank = λ l. absurd (omega (arith, l, more, none, no_more));
      idle = λ l. absurd (omega (arith, l, more, none, no_more));
    }
half_worked p downs s ups g (Exchanges byte rest is queue flash up) a =
    let none : count_on done_in ups ≡ 0 = no_done s downs ups (Byte byte) rest is a.blank in
    let owed : p.owed ≡ count_on reset_in downs + count_on done_in ups = a.owed in
    let more : count_on done_in (ups ++ g.up ∷ []) ≡ count_on done_in ups + done_in g.up = count_more done_in ups g.up in
    let no_more : done_in g.up ≡ 0 = ap done_in up in
    record {
      owed = omega (arith, owed, more, no_more);
      writable = a.writable;
      small = a.small;
      closed = a.closed;
      calm = subst IsCalm (sym flash) ((stays_calm (flash_cycle s.flash)).byte byte ((stays_calm s.flash).cycle a.calm));
      behind_reset = a.behind_reset;
      no_credit = behind_more done_in credit_in ups g.up (inr none) a.no_credit;
      no_word = behind_more done_in word_in ups g.up (inr none) a.no_word;
      blank = λ l. absurd (omega (arith, l, more, none, no_more));
      idle = λ l. absurd (omega (arith, l, more, none, no_more));
    }

half_reset : (p : SerialRegisters) (downs : List (Option Down)) (s : SpiState) (ups : List (Option Up)) → Half p (Some Reset ∷ downs) s ups
    → Half p downs (reset s).unit (ups ++ (reset s).up ∷ [])
half_reset p downs s ups a =
    let owed : p.owed ≡ 1 + count_on reset_in downs + count_on done_in ups = a.owed in
    let more : count_on done_in (ups ++ Some done_up ∷ []) ≡ count_on done_in ups + 1 = count_more done_in ups (Some done_up) in
    record {
      owed = omega (arith, owed, more);
      writable = a.writable;
      small = a.small;
      closed = a.closed;
      calm = (stays_calm (flash_cycle s.flash)).reset ((stays_calm s.flash).cycle a.calm);
      behind_reset = a.behind_reset.1;
      no_credit = behind_more done_in credit_in ups (Some done_up) (inl refl) a.no_credit;
      no_word = behind_more done_in word_in ups (Some done_up) (inl refl) a.no_word;
      blank = λ l. none_of (all_on entries_in downs) (entries_counted downs ∙ a.behind_reset.0 refl);
      idle = λ l. refl;
    }

pub half_unit : (p : SerialRegisters) (downs : List (Option Down)) (s : SpiState) (ups : List (Option Up)) (now : ℕ) (d : Option Down) → Half p (d ∷ downs) s ups
    → Half p downs (spi_cycle s now d).unit (ups ++ (spi_cycle s now d).up ∷ [])
unfolding spi_cycle
half_unit p downs s ups now None a = half_worked p downs s ups (engine s) (works s) (half_none p downs s ups a)
half_unit p downs s ups now (Some Reset) a = half_reset p downs s ups a
half_unit p downs s ups now (Some (Set reg word)) a =
    half_worked p downs (set_in s reg word) ups (engine (set_in s reg word)) (works (set_in s reg word)) (half_set p downs s ups reg word a)

-- a whole cycle

abbrev pub path_of : SerialRegisters → List (Option Down) → SpiState → List (Option Up) → FlashPath
path_of front downs unit ups = record { front = front; down = downs; unit = unit; up = ups }

pub halved : (p : FlashPath) → Always p → Half p.front p.down p.unit p.up
halved p a = record {
  owed = a.owed;
  writable = a.writable;
  small = a.small;
  closed = a.closed;
  calm = a.calm;
  behind_reset = a.behind_reset;
  no_credit = a.no_credit;
  no_word = a.no_word;
  blank = λ l. (a.blank l).entries;
  idle = λ l. (a.blank l).transfer;
}

pub joined : (front : SerialRegisters) (downs : List (Option Down)) (unit : SpiState) (ups : List (Option Up)) → IsLink downs → IsLink ups → Half front downs unit ups
    → Always (path_of front downs unit ups)
joined front downs unit ups d u a = record {
  down_places = d;
  up_places = u;
  owed = a.owed;
  writable = a.writable;
  small = a.small;
  closed = a.closed;
  calm = a.calm;
  behind_reset = a.behind_reset;
  no_credit = a.no_credit;
  no_word = a.no_word;
  blank = λ l. record { entries = a.blank l; transfer = a.idle l };
}

moved_places : {M : Type 0} (x : M) (rest : List M) (m : M) → IsLink (x ∷ rest) → IsLink (rest ++ m ∷ [])
moved_places x rest m h =
    let same : length (rest ++ m ∷ []) ≡ length rest + 1 = length-append rest (m ∷ []) in
    let most : length rest + 1 ≤ 4096 = omega (arith, h.most) in
    record { one = omega (arith, same); most = omega (arith, same, most) }

reset_most : (m : Option Down) → reset_in m ≤ 1
reset_most None = omega arith
reset_most (Some Reset) = omega arith
reset_most (Some (Set reg word)) = omega arith

pub done_most : (m : Option Up) → done_in m ≤ 1
done_most None = omega arith
done_most (Some up) = by up.done refl
  where
    by : (b : Bool) → up.done ≡ b → done_in (Some up) ≤ 1
    by true e = rw e (omega arith)
    by false e = rw e (omega arith)

-- fewer answers are owed than there are places, so that the count doesn't stop
few_owed : (p : SerialRegisters) (downs : List (Option Down)) (unit : SpiState) (ups : List (Option Up)) → length downs ≤ 4096 → length ups < 4096 → Half p downs unit ups → p.owed < 8192
few_owed p downs unit ups l m a =
    let owed : p.owed ≡ count_on reset_in downs + count_on done_in ups = a.owed in
    let resets : count_on reset_in downs ≤ length downs = count_most reset_in reset_most downs in
    let dones : count_on done_in ups ≤ length ups = count_most done_in done_most ups in
    omega (arith, owed, resets, dones, l, m)

always_at : (front : SerialRegisters) (d : Option Down) (downs : List (Option Down)) (unit : SpiState) (y : Option Up) (ups : List (Option Up)) (now : ℕ) (touch : Touch)
    → Always (path_of front (d ∷ downs) unit (y ∷ ups)) → Always (after_touch (path_of front (d ∷ downs) unit (y ∷ ups)) now touch)
always_at front d downs unit y ups now touch a =
    let one : Half (heard_by front y) (d ∷ downs) unit ups = half_heard front (d ∷ downs) unit y ups (halved (path_of front (d ∷ downs) unit (y ∷ ups)) a) in
    let most : length ups + 1 ≤ 4096 = omega (arith, a.up_places.most) in
    let few : (heard_by front y).owed < 8192 = few_owed (heard_by front y) (d ∷ downs) unit ups a.down_places.most (omega (arith, most)) one in
    joined _ _ _ _ (moved_places d downs _ a.down_places) (moved_places y ups _ a.up_places)
    (half_unit _ (downs ++ sent_by (heard_by front y) touch ∷ []) unit ups now d (half_touch touch (heard_by front y) (d ∷ downs) unit ups few one))

always_by : (p : FlashPath) (now : ℕ) (touch : Touch) (down : List (Option Down)) (up : List (Option Up)) → p.down ≡ down → p.up ≡ up → Always p
    → Always (after_touch (record p { down = down; up = up }) now touch)
always_by p now touch [] up e f a = let none : length p.down ≡ 0 = ap length e in absurd (omega (arith, none, a.down_places.one))
always_by p now touch (d ∷ downs) [] e f a = let none : length p.up ≡ 0 = ap length f in absurd (omega (arith, none, a.up_places.one))
always_by p now touch (d ∷ downs) (y ∷ ups) e f a = always_at p.front d downs p.unit y ups now touch
    (subst (λ down. Always (record p { down = down; up = y ∷ ups })) e (subst (λ up. Always (record p { up = up })) f a))

pub stays_always : (p : FlashPath) → StaysAlways p
stays_always p now touch a = always_by p now touch p.down p.up refl refl a
