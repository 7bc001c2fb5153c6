-- A cycle keeps what holds of the watchdog.
use Rattle.std.proofs.Common.{◌≡◌, ◌≤◌, ℕ, ◌+◌, ◌⊎◌, inl, inr, Bool, true, false, List, [], ◌∷◌, ◌++◌, length, replicate, Option, None, Some, refl, sym, ap, ◌∙◌, arith, length-append, subst}
use Rattle.std.proofs.lemmas.List.{length-replicate}
use Rattle.chip_base.specs.Given.{Given}
use Rattle.chip_base.specs.Messages.{fire_in, reset_in}
use Rattle.chip_base.specs.declared.message.Down.{Down}
use Rattle.chip_base.specs.declared.message.Down.TheVariants.{Reset, Set}
use Rattle.chip_base.specs.declared.message.Up.{Up}
use Rattle.soc_words.specs.Link.{link_first, count_on}
use Rattle.board_units.specs.WatchdogCycle.{watchdog_cycle}
use Rattle.board_units.specs.WatchdogState.{WatchdogState, watchdog_reset}
use Rattle.board_units.specs.WatchdogTime.{FiresOnce, fires_since_reset}
use Rattle.board_units.proofs.Fires.{fires_once, rests_disabled}
use Rattle.monitor_paths.specs.WatchdogPath.{WatchdogPath, watchdog_after, watchdog_start}
use Rattle.monitor_paths.specs.Watched.{IsWatched, IsWatchedByMonitor, StartsAsleep, StaysWatched, message_in}
use Rattle.soc_words.proofs.Links.{behind_more, count_more}
use Rattle.monitor_paths.proofs.Links.{behind_none, none_counted}

-- a Reset that comes, and none
reset_or_not : (down : Option Down) → (reset_in down ≡ 0) ⊎ (reset_in down ≡ 1)
reset_or_not None = inl refl
reset_or_not (Some Reset) = inr refl
reset_or_not (Some (Set reg word)) = inl refl

fired_or_not : (s : WatchdogState) → (s.fired ≡ true) ⊎ (s.fired ≡ false)
fired_or_not s = by s.fired refl
  where
    by : (b : Bool) → s.fired ≡ b → (s.fired ≡ true) ⊎ (s.fired ≡ false)
    by true e = inl e
    by false e = inr e

is_one : (s : WatchdogState) → s.fired ≡ true → fires_since_reset s ≡ 1
is_one s e = rw e refl

is_none : (s : WatchdogState) → s.fired ≡ false → fires_since_reset s ≡ 0
is_none s e = rw e refl

fire_most : (up : Option Up) → fire_in up ≤ 1
fire_most None = omega arith
fire_most (Some up) = by up.fire refl
  where
    by : (b : Bool) → up.fire ≡ b → fire_in (Some up) ≤ 1
    by true e = rw e (omega arith)
    by false e = rw e (omega arith)

-- all Fires and Resets on the links together are one where the unit has fired, and else none
balanced : (p : WatchdogPath) → IsWatched p → count_on fire_in p.up + count_on reset_in p.down ≡ fires_since_reset p.unit
balanced p w = elim (fired_or_not p.unit) as (λ _. count_on fire_in p.up + count_on reset_in p.down ≡ fires_since_reset p.unit) [
  | inl e ↦ w.one e ∙ sym (is_one p.unit e)
  | inr e ↦ let none : fires_since_reset p.unit ≡ 0 = is_none p.unit e in omega (arith, none, (w.none e).0, (w.none e).1)
]

watched : (p : WatchdogPath) → 1 ≤ length p.down → 1 ≤ length p.up → count_on fire_in p.up + count_on reset_in p.down ≡ fires_since_reset p.unit → IsWatched p
watched p l m all = record {
  down_places = l;
  up_places = m;
  one = λ e. all ∙ is_one p.unit e;
  none = λ e. let z : fires_since_reset p.unit ≡ 0 = is_none p.unit e in (omega (arith, all, z), omega (arith, all, z));
}

abbrev path_of : List (Option Down) → WatchdogState → List (Option Up) → WatchdogPath
path_of downs s ups = record { down = downs; unit = s; up = ups }

by_links : (P : WatchdogPath → Type 0) → ((d : Option Down) (downs : List (Option Down)) (s : WatchdogState) (y : Option Up) (ups : List (Option Up))
    → IsWatched (path_of (d ∷ downs) s (y ∷ ups)) → P (path_of (d ∷ downs) s (y ∷ ups))) → (p : WatchdogPath) → IsWatched p → P p
by_links P h p w = by p.down p.up refl refl
  where
    by : (down : List (Option Down)) (up : List (Option Up)) → p.down ≡ down → p.up ≡ up → P p
    by [] up e f = let none : length p.down ≡ 0 = ap length e in absurd (omega (arith, none, w.down_places))
    by (d ∷ downs) [] e f = let none : length p.up ≡ 0 = ap length f in absurd (omega (arith, none, w.up_places))
    by (d ∷ downs) (y ∷ ups) e f =
        subst (λ down. P (record p { down = down })) (sym e) (subst (λ up. P (record p { down = d ∷ downs; up = up })) (sym f)
        (h d downs p.unit y ups (subst (λ down. IsWatched (record p { down = down; up = y ∷ ups })) e (subst (λ up. IsWatched (record p { up = up })) f w))))

once : (s : WatchdogState) (now : ℕ) (d : Option Down) → FiresOnce now s d (watchdog_cycle s now d).unit (watchdog_cycle s now d).up (watchdog_cycle s now d).event
once s now d = fires_once now s d _ _ _ refl refl refl

longer : {M : Type 0} (rest : List M) (m : M) → 1 ≤ length (rest ++ m ∷ [])
longer rest m = let same : length (rest ++ m ∷ []) ≡ length rest + 1 = length-append rest (m ∷ []) in omega (arith, same)

-- the hub answers a Fire by a Reset, and the unit takes its message
stays_at : (now : ℕ) (sent d : Option Down) (downs : List (Option Down)) (s : WatchdogState) (y : Option Up) (ups : List (Option Up)) → reset_in sent ≡ fire_in y
    → IsWatched (path_of (d ∷ downs) s (y ∷ ups)) → IsWatched (watchdog_after (path_of (d ∷ downs) s (y ∷ ups)) now sent)
stays_at now sent d downs s y ups e w =
    let all : fire_in y + count_on fire_in ups + (reset_in d + count_on reset_in downs) ≡ fires_since_reset s = balanced (path_of (d ∷ downs) s (y ∷ ups)) w in
    let g : Given WatchdogState = watchdog_cycle s now d in
    let resets : count_on reset_in (downs ++ sent ∷ []) ≡ count_on reset_in downs + reset_in sent = count_more reset_in downs sent in
    let fires : count_on fire_in (ups ++ g.up ∷ []) ≡ count_on fire_in ups + fire_in g.up = count_more fire_in ups g.up in
    watched (watchdog_after (path_of (d ∷ downs) s (y ∷ ups)) now sent) (longer downs sent) (longer ups g.up)
    (elim (reset_or_not d) as (λ _. count_on fire_in (ups ++ g.up ∷ []) + count_on reset_in (downs ++ sent ∷ []) ≡ fires_since_reset g.unit) [
      | inl none ↦
          let counts : fire_in g.up + fires_since_reset s ≡ fires_since_reset g.unit = (once s now d).counts none in
          omega (arith, all, resets, fires, counts, none, e)
      | inr one ↦
          let after : (g.unit ≡ watchdog_reset) × (fire_in g.up ≡ 0) = (once s now d).resets one in
          let none_left : fires_since_reset g.unit ≡ 0 = ap fires_since_reset after.0 in
          let most : fires_since_reset s ≤ 1 = fires_most s in
          omega (arith, all, resets, fires, one, e, after.1, none_left, most)
    ])
  where
    fires_most : (s : WatchdogState) → fires_since_reset s ≤ 1
    fires_most s = elim (fired_or_not s) as (λ _. fires_since_reset s ≤ 1) [
      | inl e ↦ let one : fires_since_reset s ≡ 1 = is_one s e in omega (arith, one)
      | inr e ↦ let none : fires_since_reset s ≡ 0 = is_none s e in omega (arith, none)
    ]

-- a Fire arrives: the unit waits for the Reset that is sent
fire_at : (now : ℕ) (d : Option Down) (downs : List (Option Down)) (s : WatchdogState) (y : Option Up) (ups : List (Option Up)) → fire_in y ≡ 1
    → IsWatched (path_of (d ∷ downs) s (y ∷ ups)) → IsWatchedByMonitor (watchdog_after (path_of (d ∷ downs) s (y ∷ ups)) now (Some Reset))
fire_at now d downs s y ups e w =
    let all : fire_in y + count_on fire_in ups + (reset_in d + count_on reset_in downs) ≡ fires_since_reset s = balanced (path_of (d ∷ downs) s (y ∷ ups)) w in
    let has_fired : s.fired ≡ true = elim (fired_or_not s) as (λ _. s.fired ≡ true) [
      | inl f ↦ f
      | inr f ↦ let none : fires_since_reset s ≡ 0 = is_none s f in absurd (omega (arith, all, none, e))
    ] in
    let one : fires_since_reset s ≡ 1 = is_one s has_fired in
    let g : Given WatchdogState = watchdog_cycle s now d in
    let waits : (g.unit ≡ s) × (g.up ≡ None) = (once s now d).waits has_fired (omega (arith, all, one, e)) in
    let fires : count_on fire_in (ups ++ g.up ∷ []) ≡ count_on fire_in ups + fire_in g.up = count_more fire_in ups g.up in
    let none_up : fire_in g.up ≡ 0 = ap fire_in waits.1 in
    let none_down : count_on reset_in downs ≡ 0 = omega (arith, all, one, e) in
    record {
      no_fire = omega (arith, fires, none_up, all, one, e);
      rests = inl (record {
        fired = ap (λ s. s.fired) waits.0 ∙ has_fired;
        last = behind_more reset_in message_in downs (Some Reset) (inr none_down) (behind_none reset_in message_in downs none_down);
      });
    }

-- nothing comes and nothing is sent

no_message : (down : Option Down) → message_in down ≡ 0 → down ≡ None
no_message None e = refl
no_message (Some message) e = absurd (omega (arith, e))

quiet_at : (now : ℕ) (d : Option Down) (downs : List (Option Down)) (s : WatchdogState) (y : Option Up) (ups : List (Option Up)) → IsWatched (path_of (d ∷ downs) s (y ∷ ups))
    → IsWatchedByMonitor (path_of (d ∷ downs) s (y ∷ ups)) → IsWatchedByMonitor (watchdog_after (path_of (d ∷ downs) s (y ∷ ups)) now None)
quiet_at now d downs s y ups w m =
    elim m.rests as (λ _. IsWatchedByMonitor (watchdog_after (path_of (d ∷ downs) s (y ∷ ups)) now None)) [
      | inl waits ↦ elim (reset_or_not d) as (λ _. IsWatchedByMonitor (watchdog_after (path_of (d ∷ downs) s (y ∷ ups)) now None)) [
        | inl none ↦
            let same : (g.unit ≡ s) × (g.up ≡ None) = (once s now d).waits waits.fired none in
            record {
              no_fire = no_fires (ap fire_in same.1);
              rests = inl (record { fired = ap (λ s. s.fired) same.0 ∙ waits.fired; last = behind_more reset_in message_in downs None (inl refl) waits.last.1 });
            }
        | inr one ↦
            let after : (g.unit ≡ watchdog_reset) × (fire_in g.up ≡ 0) = (once s now d).resets one in
            record {
              no_fire = no_fires after.1;
              rests = inr (record { off = ap (λ s. s.enabled) after.0; empty = none_more (waits.last.0 one) });
            }
      ]
      | inr is_off ↦
          let none : message_in d + count_on message_in downs ≡ 0 = is_off.empty in
          let nothing : d ≡ None = no_message d (omega (arith, none)) in
          let rests : watchdog_cycle s now d ≡ record { unit = s; up = None; event = None } = ap (watchdog_cycle s now) nothing ∙ rests_disabled s is_off.off now in
          record {
            no_fire = no_fires (ap (λ g. fire_in g.up) rests);
            rests = inr (record { off = ap (λ g. g.unit.enabled) rests ∙ is_off.off; empty = none_more (omega (arith, none)) });
          }
    ]
  where
    g : Given WatchdogState
    g = watchdog_cycle s now d

    no_fires : fire_in g.up ≡ 0 → count_on fire_in (ups ++ g.up ∷ []) ≡ 0
    no_fires none =
        let fires : count_on fire_in (ups ++ g.up ∷ []) ≡ count_on fire_in ups + fire_in g.up = count_more fire_in ups g.up in
        let before : fire_in y + count_on fire_in ups ≡ 0 = m.no_fire in
        omega (arith, fires, before, none)

    none_more : count_on message_in downs ≡ 0 → count_on message_in (downs ++ None ∷ []) ≡ 0
    none_more none = let more : count_on message_in (downs ++ None ∷ []) ≡ count_on message_in downs + 0 = count_more message_in downs None in omega (arith, more, none)

-- the hub answers each Fire by a Reset, and sends no other
pub watched_always : (p : WatchdogPath) (now : ℕ) (sent : Option Down) → reset_in sent ≡ fire_in (link_first p.up) → IsWatched p → IsWatched (watchdog_after p now sent)
watched_always p now sent e w = by_links (λ p. reset_in sent ≡ fire_in (link_first p.up) → IsWatched (watchdog_after p now sent))
    (λ d downs s y ups w e. stays_at now sent d downs s y ups e w) p w e

-- a Fire arrives, and the monitor runs from then on
pub watched_fire : (p : WatchdogPath) (now : ℕ) → fire_in (link_first p.up) ≡ 1 → IsWatched p → IsWatchedByMonitor (watchdog_after p now (Some Reset))
watched_fire p now e w = by_links (λ p. fire_in (link_first p.up) ≡ 1 → IsWatchedByMonitor (watchdog_after p now (Some Reset)))
    (λ d downs s y ups w e. fire_at now d downs s y ups e w) p w e

-- while the monitor runs no Fire arrives
pub watched_quiet : (p : WatchdogPath) → IsWatched p → IsWatchedByMonitor p → fire_in (link_first p.up) ≡ 0
watched_quiet p w m = by_links (λ p. IsWatchedByMonitor p → fire_in (link_first p.up) ≡ 0)
    (λ d downs s y ups w m. let none : fire_in y + count_on fire_in ups ≡ 0 = m.no_fire in omega (arith, none)) p w m

-- and it goes on so, since it sends nothing
pub watched_rests : (p : WatchdogPath) (now : ℕ) → IsWatched p → IsWatchedByMonitor p → IsWatchedByMonitor (watchdog_after p now None)
watched_rests p now w m = by_links (λ p. IsWatchedByMonitor p → IsWatchedByMonitor (watchdog_after p now None))
    (λ d downs s y ups w m. quiet_at now d downs s y ups w m) p w m

pub stays_watched : (p : WatchdogPath) → StaysWatched p
stays_watched p = record {
  always = λ now sent e w. watched_always p now sent e w;
  fire = λ now e w. watched_fire p now e w;
  quiet = λ w m. watched_quiet p w m;
  rests = λ now w m. watched_rests p now w m;
}

-- power-on

some_places : (M : Type 0) (n : ℕ) → 1 ≤ n → 1 ≤ length (replicate {A = Option M} n None)
some_places M n l = let places : length (replicate {A = Option M} n None) ≡ n = length-replicate {A = Option M} n None in omega (arith, places, l)

pub starts_asleep : (down up : ℕ) → StartsAsleep down up
starts_asleep down up l m =
    let no_fires : count_on fire_in (replicate up None) ≡ 0 = none_counted fire_in refl up in
    let no_resets : count_on reset_in (replicate down None) ≡ 0 = none_counted reset_in refl down in
    record {
      always = watched (watchdog_start down up) (some_places Down down l) (some_places Up up m) (omega (arith, no_fires, no_resets));
      monitor = record { no_fire = no_fires; rests = inr (record { off = refl; empty = none_counted message_in refl down }) };
    }
