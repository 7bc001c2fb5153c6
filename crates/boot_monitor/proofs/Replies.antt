-- What a reply does to the monitor, in each kind of phase.
use Rattle.std.proofs.Common.{◌≡◌, ℕ, ◌<◌, List, length, refl, sym, ap, ap₂, ◌∙◌, subst}
use Rattle.std.specs.Prelude.{Option, Some, None}
use Rattle.boot_monitor.specs.Actions.{Action, ActionState, after_replies, answered, begun, settled}
use Rattle.boot_monitor.specs.Phases.{Goes, IsComing, IsCounted, IsIn, IsReady, IsSound, IsStarted, IsUnderWay, mind_of, text_of, todo_in}
use Rattle.boot_monitor.specs.Standing.{Stands, given_by}
use Rattle.boot_monitor.specs.Tallies.{Counts}
use Rattle.boot_monitor.specs.declared.exchange.MonitorIn.TheVariants.{Start, Word}
use Rattle.boot_monitor.specs.declared.phases.MonitorState.{MonitorState}
use Rattle.boot_monitor.specs.declared.phases.Phase.{Phase}
use Rattle.boot_monitor.specs.declared.phases.Phase.TheVariants.{AwaitingRoom, Unstarted}
use Rattle.boot_monitor.specs.declared.phases.Text.{Text}
use Rattle.boot_monitor.proofs.Opens.{open-phase}
use Rattle.boot_monitor.proofs.Rest.{settled-open}

-- where the phase is known, a word is taken as the answer to the phase's request
pub taken : (m n : MonitorState) (s : ActionState) (word : ℕ) (p : Phase) → IsIn m s → m.phase ≡ p
    → IsIn n (answered m.room m.ctrl (todo_in p m.ctrl m.tally.count m.tally.size) (mind_of m s.mind.bytes) word)
    → IsIn n (answered m.room m.ctrl s.todo s.mind word)
taken m n s word p here e h =
    let todo : s.todo ≡ todo_in p m.ctrl m.tally.count m.tally.size = here.todo ∙ ap (λ p. todo_in p m.ctrl m.tally.count m.tally.size) e in
    let is : s.mind ≡ mind_of m s.mind.bytes = ap₂ (λ (held : Option (ℕ × ℕ)) (status : ℕ). record { bytes = s.mind.bytes; held = held; status = status }) here.held here.status in
    subst (λ todo. IsIn n (answered m.room m.ctrl todo s.mind word)) (sym todo)
    (subst (λ i. IsIn n (answered m.room m.ctrl (todo_in p m.ctrl m.tally.count m.tally.size) i word)) (sym is) h)

-- the bytes of an image that comes are counted
pub counted-in : (m : MonitorState) (s : ActionState) (p : Phase) → IsIn m s → m.phase ≡ p → IsComing p → Counts m.tally s.mind.bytes
counted-in m s p here e h = here.counts (subst IsComing (sym e) h)

-- the actions ahead are a phase's
pub reached : (m : MonitorState) (q : Phase) (todo : List Action) (bytes : List ℕ) (room ctrl : ℕ) → todo_in q m.ctrl m.tally.count m.tally.size ≡ todo
    → IsStarted q → IsReady q → (IsComing q → Counts m.tally bytes) → IsIn (record m { phase = q }) (settled room ctrl todo (mind_of m bytes))
reached m q todo bytes room ctrl e started ready counts =
    subst (λ todo. IsIn (record m { phase = q }) (settled room ctrl todo (mind_of m bytes))) e
    (subst (IsIn (record m { phase = q })) (sym (settled-open room ctrl _ (mind_of m bytes) (open-phase q m.ctrl m.tally.count m.tally.size started ready)))
    (record { todo = refl; held = refl; status = refl; counts = counts }))

-- in another phase it is sound, and these actions are ahead
module _ (m n : MonitorState) (p : Phase) (e : n ≡ record m { phase = p }) where
  pub moves : IsSound m → IsStarted p → IsReady p → IsCounted p m.room m.tally.count m.tally.size → Goes m n
  moves sound started ready counted = subst (Goes m) (sym e) (record {
    room = refl;
    ctrl = refl;
    started = started;
    sound = record { size = sound.size; ready = ready; counted = counted; part = sound.part; held_fits = sound.held_fits };
  })

  pub stays : (todo : List Action) (bytes : List ℕ) → todo_in p m.ctrl m.tally.count m.tally.size ≡ todo → (IsComing p → Counts m.tally bytes)
      → IsIn n (record { todo = todo; mind = mind_of m bytes })
  stays todo bytes h counts =
      subst (λ n. IsIn n (record { todo = todo; mind = mind_of m bytes })) (sym e) (record { todo = sym h; held = refl; status = refl; counts = counts })

-- a word turns the phase into another
pub turns : (m n : MonitorState) (s : ActionState) (word : ℕ) (p : Phase) → n ≡ record m { phase = p } → IsIn m s
    → answered m.room m.ctrl (todo_in m.phase m.ctrl m.tally.count m.tally.size) (mind_of m s.mind.bytes) word
    ≡ record { todo = todo_in p m.ctrl m.tally.count m.tally.size; mind = mind_of m s.mind.bytes }
    → (IsComing p → IsComing m.phase) → IsIn n (answered m.room m.ctrl s.todo s.mind word)
turns m n s word p e here same coming =
    taken m n s word m.phase here refl (subst (IsIn n) (sym same)
    (stays m n p e (todo_in p m.ctrl m.tally.count m.tally.size) s.mind.bytes refl (λ u. here.counts (coming u))))

-- where a text begins, it is sound
pub tells : (m n : MonitorState) (text : Text) → n ≡ record m { phase = AwaitingRoom text 0; status = 0 } → IsSound m → 0 < length (text_of text)
    → IsCounted (AwaitingRoom text 0) m.room m.tally.count m.tally.size → Goes m n
tells m n text e sound ready counted = subst (Goes m) (sym e) (record {
  room = refl;
  ctrl = refl;
  started = tt;
  sound = record { size = sound.size; ready = ready; counted = counted; part = sound.part; held_fits = sound.held_fits };
})

-- Stands, opened: what a start leads to, and what a word leads to
pub stands-started : (m n : MonitorState) (room ctrl : ℕ) (given : Option (List ℕ)) → Stands m room ctrl given → Goes m n
    → ((room : ℕ) → IsIn n (begun room m.ctrl)) → m.phase ≡ Unstarted → Stands n room ctrl (Some (given_by given Start))
unfolding Stands
stands-started m n room ctrl None h g is u =
    (g.room ∙ h.0, g.ctrl ∙ h.1, g.started, subst (λ c. IsIn n (begun room c)) h.1 (is room))
stands-started m n room ctrl (Some replies) h g is u = let bad : ⊥ = subst IsStarted u h.2 in elim bad [ ]

pub stands-answered : (m n : MonitorState) (room ctrl word : ℕ) (given : Option (List ℕ)) → Stands m room ctrl given → Goes m n
    → ((s : ActionState) → IsIn m s → IsIn n (answered m.room m.ctrl s.todo s.mind word)) → IsUnderWay m.phase → Stands n room ctrl (Some (given_by given (Word word)))
unfolding Stands
stands-answered m n room ctrl word None h g is u = let bad : ⊥ = subst IsUnderWay h.2 u in elim bad [ ]
stands-answered m n room ctrl word (Some replies) h g is u = (
  g.room ∙ h.0,
  g.ctrl ∙ h.1,
  g.started,
  subst (λ r. IsIn n (answered r ctrl (after_replies room ctrl replies).todo (after_replies room ctrl replies).mind word)) h.0
      (subst (λ c. IsIn n (answered m.room c (after_replies room ctrl replies).todo (after_replies room ctrl replies).mind word)) h.1 (is (after_replies room ctrl replies) h.3)),
)
