-- What holds where a command is awaited, at the hand-over, and at each byte on the way; and one item more.
use Rattle.std.proofs.Common.{◌≡◌, ◌≢◌, ℕ, ◌≤◌, ◌<◌, Bool, true, false, List, [], ◌∷◌, ◌++◌, length, flat_map, codes, Option, Some, None, ◌==◌, if◌then◌else◌, refl, sym, ap, ◌∙◌, arith, append_assoc, append-nil, length-append, subst}
use Rattle.std.proofs.lemmas.Bool.Decides.{nat_tests}
use Rattle.image_tool.specs.Image.{AreBytes, is_allowed, size_of}
use Rattle.spi_flash.specs.declared.transfer.Transfer.TheVariants.{Idle as Unselected}
use Rattle.flash_seen.specs.World.{World, Stage, Shut, Idle, Sent, Ready}
use Rattle.boot_monitor.specs.Actions.{Key, Help, Information, Restart, Upload, Store, Load, Execute, Unknown, Mind, key_of, prompting}
use Rattle.boot_gate.specs.Gate.{Outcome, Shown, after_item, after_items, outcome, said, said_from, text_of}
use Rattle.boot_gate.specs.Items.{Item, Single, Unsigned, Unfit, Whole, AreItems, IsItem, bytes_in, is_signed, letter_e, letter_u}
use Rattle.boot_gate.specs.Laws.{BeginsWith, HasBytes, IsHeld, IsQuiet}
use Rattle.boot_gate.proofs.Passing.{Around, Ending, Asked, Gone, Took, IsFresh, around, fresh}
use Rattle.boot_gate.proofs.Unique.{bytes-more, front-same, item-same, items-more, some-bytes}

-- one item more

-- what one item more makes
pub items_after : (room : ℕ) (o : Outcome) (items : List Item) (item : Item) → after_items room o (items ++ item ∷ []) ≡ after_item room (after_items room o items) item
items_after room o [] item = refl
items_after room o (first ∷ items) item = items_after room (after_item room o first) items item

-- and what is said of it
said_more : (room : ℕ) (shown : Shown) (o : Outcome) (items : List Item) (item : Item)
    → said_from room shown o (items ++ item ∷ []) ≡ said_from room shown o items ++ text_of room shown (after_items room o items) item
said_more room shown o [] item = append-nil (text_of room shown o item)
said_more room shown o (first ∷ items) item =
    ap (λ t. text_of room shown o first ++ t) (said_more room shown (after_item room o first) items item)
    ∙ sym (append_assoc (text_of room shown o first) (said_from room shown (after_item room o first) items) (text_of room shown (after_items room (after_item room o first) items) item))

-- between two commands

-- SPI's front was seen open, and at most one selection or deselect was sent since the last answer
abbrev pub IsFew : Stage → Type 0
IsFew (Idle sent) = sent < 2
IsFew _ = ⊥

-- so the wait for the fronts leaves it as it is
pub few_fresh : (stage : Stage) → IsFew stage → IsFresh stage × (fresh stage ≡ stage)
few_fresh (Idle sent) h = (tt, refl)
few_fresh Shut h = elim h [ ]
few_fresh (Sent before) h = elim h [ ]
few_fresh (Ready before) h = elim h [ ]

-- a flash with these bytes isn't selected
pub record IsResting (flash : Option (List ℕ)) (w : World) : Type 0 where
  pub idle : w.flash.transfer ≡ Unselected
  pub has : HasBytes flash w.flash
  pub bare : w.flash.fitted ≡ false → w.free ≡ true
  pub quiet : IsQuiet w
  pub few : IsFew w.stage

-- a payload that is held is one for which there is room
abbrev pub IsGood : ℕ → Option (List ℕ) → Type 0
IsGood room None = Unit {0}
IsGood room (Some payload) = (is_allowed room (length payload) ≡ true) × AreBytes payload

-- the monitor holds this payload, and the last command's bytes are gone
pub record IsKeeping (room : ℕ) (held : Option (List ℕ)) (i : Mind) (memory : List ℕ) : Type 0 where
  pub bytes : i.bytes ≡ []
  pub kept : IsHeld i.held held memory
  pub good : IsGood room held

module _ (room : ℕ) (shown : Shown) (Told : Type 0) (base : Option (List ℕ)) where
  -- after these items, from the start on
  abbrev pub results : List Item → Outcome
  results items = after_items room (outcome base None) items

  -- where a command is awaited
  pub record Awaiting (i : Mind) (w : World) (m : Around) : Type 0 where
    pub items : List Item
    pub each : AreItems room items
    pub whole : m.heard ≡ flat_map bytes_in items
    pub says : Told → m.sent ≡ said room shown base items
    pub resting : IsResting (results items).flash w
    pub keeping : IsKeeping room (results items).held i m.memory

  -- at the hand-over
  pub record Leaving (w : World) (m : Around) : Type 0 where
    pub items : List Item
    pub each : AreItems room items
    pub whole : m.heard ≡ flat_map bytes_in items ++ letter_e ∷ []
    pub payload : List ℕ
    pub holds : (results items).held ≡ Some payload
    pub stored : BeginsWith m.memory payload
    pub quiet : IsQuiet w

  -- these bytes aren't whole items that hold a payload, and e
  abbrev pub NotGate : List ℕ → Type 0
  NotGate bytes = (items : List Item) → AreItems room items → bytes ≡ flat_map bytes_in items ++ letter_e ∷ [] → (results items).held ≡ None

  abbrev pub Ends : Ending → Mind → World → Around → Type 0
  Ends Asked i w m = Awaiting i w m
  Ends Gone i w m = Leaving w m
  Ends Took i w m = NotGate m.heard

  -- where an item is over and was answered, a command is awaited
  pub one_more : (items : List Item) (item : Item) (i : Mind) (w : World) (memory sent heard text : List ℕ) → AreItems room items → IsItem room item
      → heard ≡ flat_map bytes_in items ++ bytes_in item → (Told → sent ≡ said room shown base items) → (Told → text_of room shown (results items) item ≡ text)
      → IsResting (after_item room (results items) item).flash w → IsKeeping room (after_item room (results items) item).held i memory → Awaiting i w (around memory (sent ++ text) heard)
  one_more items item i w memory sent heard text each is whole says same resting keeping = record {
    items = items ++ item ∷ [];
    each = items-more room items item each is;
    whole = whole ∙ sym (bytes-more items item);
    says = λ t. ap (λ s. s ++ text) (says t) ∙ append_assoc (prompting (codes "N1")) (said_from room shown (outcome base None) items) text
        ∙ ap (λ s. prompting (codes "N1") ++ (said_from room shown (outcome base None) items ++ s)) (sym (same t))
        ∙ ap (λ s. prompting (codes "N1") ++ s) (sym (said_more room shown (outcome base None) items item));
    resting = subst (λ o. IsResting o.flash w) (sym (items_after room (outcome base None) items item)) resting;
    keeping = subst (λ o. IsKeeping room o.held i memory) (sym (items_after room (outcome base None) items item)) keeping;
  }

-- in the midst of an upload

-- what came after u, where it is no whole item and more
pub data Midst (room : ℕ) (tail : List ℕ) : Type 0 where
  heading : length tail ≤ 12 → Midst room tail
  loading : (header payload : List ℕ) → length header ≡ 12 → is_signed header ≡ true → is_allowed room (size_of header) ≡ true
      → length payload ≤ size_of header → tail ≡ header ++ payload → Midst room tail

tail-same : {x y : ℕ} {xs ys : List ℕ} → x ∷ xs ≡ y ∷ ys → xs ≡ ys
tail-same e = cc

head-same : {x y : ℕ} {xs ys : List ℕ} → x ∷ xs ≡ y ∷ ys → x ≡ y
head-same e = cc

clash : true ≡ false → ⊥
clash e = let bad : ⊥ = cc in bad

-- a whole header is behind no byte but its own
header_more : (room : ℕ) (tail g x : List ℕ) → Midst room tail → length g ≡ 12 → (is_signed g ≡ true → is_allowed room (size_of g) ≡ true → ⊥) → tail ≡ g ++ (x ++ letter_e ∷ []) → ⊥
header_more room tail g x (heading few) l other e = omega (arith, ap length e, length-append g (x ++ letter_e ∷ []), length-append x (letter_e ∷ []), l, few)
header_more room tail g x (loading header payload twelve s a few is) l other e =
    let same : (header ≡ g) × (payload ≡ x ++ letter_e ∷ []) = front-same header g payload (x ++ letter_e ∷ []) (twelve ∙ sym l) (sym is ∙ e) in
    other (ap is_signed (sym same.0) ∙ s) (ap (λ g. is_allowed room (size_of g)) (sym same.0) ∙ a)

not-item : (room : ℕ) (tail : List ℕ) (item : Item) (x : List ℕ) → Midst room tail → IsItem room item → letter_u ∷ tail ≡ bytes_in item ++ (x ++ letter_e ∷ []) → ⊥
not-item room tail (Single b) x p h e = h (sym (head-same e))
not-item room tail (Unsigned g) x p h e = header_more room tail g x p h.0 (λ s a. clash (sym s ∙ h.1)) (tail-same e)
not-item room tail (Unfit g) x p h e = header_more room tail g x p h.0 (λ s a. clash (sym a ∙ h.2)) (tail-same e)
not-item room tail (Whole g q) x (heading few) h e =
    let same : tail ≡ g ++ (q ++ (x ++ letter_e ∷ [])) = tail-same e ∙ append_assoc g q (x ++ letter_e ∷ []) in
    omega (arith, ap length same, length-append g (q ++ (x ++ letter_e ∷ [])), length-append q (x ++ letter_e ∷ []), length-append x (letter_e ∷ []), h.0, few)
not-item room tail (Whole g q) x (loading header payload twelve s a few is) h e =
    let same : (header ≡ g) × (payload ≡ q ++ (x ++ letter_e ∷ [])) =
    front-same header g payload (q ++ (x ++ letter_e ∷ [])) (twelve ∙ sym h.0) (sym is ∙ tail-same e ∙ append_assoc g q (x ++ letter_e ∷ [])) in
    omega (arith, ap length same.1, length-append q (x ++ letter_e ∷ []), length-append x (letter_e ∷ []), h.3, ap size_of same.0, few)

-- no such bytes are whole items and e
pub midst-items : (room : ℕ) (is js : List Item) (tail : List ℕ) → Midst room tail → AreItems room is → AreItems room js
    → flat_map bytes_in is ++ letter_u ∷ tail ≡ flat_map bytes_in js ++ letter_e ∷ [] → ⊥
midst-items room [] [] tail p hi hj e = let bad : 117 ≡ 101 = head-same e in absurd (omega (arith, bad))
midst-items room [] (j ∷ js) tail p hi hj e = not-item room tail j (flat_map bytes_in js) p hj.0 (e ∙ append_assoc (bytes_in j) (flat_map bytes_in js) (letter_e ∷ []))
midst-items room (i ∷ is) [] tail p hi hj e =
    omega (arith, ap length e, length-append (bytes_in i ++ flat_map bytes_in is) (letter_u ∷ tail), length-append (bytes_in i) (flat_map bytes_in is), some-bytes i)
midst-items room (i ∷ is) (j ∷ js) tail p hi hj e =
    let same : (i ≡ j) × (flat_map bytes_in is ++ letter_u ∷ tail ≡ flat_map bytes_in js ++ letter_e ∷ []) =
    item-same room i j (flat_map bytes_in is ++ letter_u ∷ tail) (flat_map bytes_in js ++ letter_e ∷ []) hi.0 hj.0
    (sym (append_assoc (bytes_in i) (flat_map bytes_in is) (letter_u ∷ tail)) ∙ e ∙ append_assoc (bytes_in j) (flat_map bytes_in js) (letter_e ∷ [])) in
    midst-items room is js tail p hi.1 hj.1 same.1

-- what a command says of its byte, and what one that isn't u or e says

test_true : (a b : ℕ) → (a == b) ≡ true → a ≡ b
test_true a b e = grind (arith, nat_tests)

keys : Bool → Bool → Bool → Bool → Bool → Bool → Bool → Key
keys u e s l r h i = if u then Upload else if e then Execute else if s then Store else if l then Load else if r then Restart else if h then Help else if i then Information else Unknown

upload_key : (u e s l r h i : Bool) → keys u e s l r h i ≡ Upload → u ≡ true
unfolding keys
upload_key true e s l r h i is = refl
upload_key false true s l r h i is = let bad : ⊥ = cc in elim bad [ ]
upload_key false false true l r h i is = let bad : ⊥ = cc in elim bad [ ]
upload_key false false false true r h i is = let bad : ⊥ = cc in elim bad [ ]
upload_key false false false false true h i is = let bad : ⊥ = cc in elim bad [ ]
upload_key false false false false false true i is = let bad : ⊥ = cc in elim bad [ ]
upload_key false false false false false false true is = let bad : ⊥ = cc in elim bad [ ]
upload_key false false false false false false false is = let bad : ⊥ = cc in elim bad [ ]

execute_key : (u e s l r h i : Bool) → keys u e s l r h i ≡ Execute → e ≡ true
unfolding keys
execute_key true e s l r h i is = let bad : ⊥ = cc in elim bad [ ]
execute_key false true s l r h i is = refl
execute_key false false true l r h i is = let bad : ⊥ = cc in elim bad [ ]
execute_key false false false true r h i is = let bad : ⊥ = cc in elim bad [ ]
execute_key false false false false true h i is = let bad : ⊥ = cc in elim bad [ ]
execute_key false false false false false true i is = let bad : ⊥ = cc in elim bad [ ]
execute_key false false false false false false true is = let bad : ⊥ = cc in elim bad [ ]
execute_key false false false false false false false is = let bad : ⊥ = cc in elim bad [ ]

pub is_upload : (b : ℕ) → key_of b ≡ Upload → b ≡ letter_u
unfolding keys
is_upload b e = test_true b 117 (upload_key (b == 117) (b == 101) (b == 115) (b == 108) (b == 114) (b == 104) (b == 105) e)

pub is_execute : (b : ℕ) → key_of b ≡ Execute → b ≡ letter_e
unfolding keys
is_execute b e = test_true b 101 (execute_key (b == 117) (b == 101) (b == 115) (b == 108) (b == 114) (b == 104) (b == 105) e)

pub not_upload : (b : ℕ) (k : Key) → key_of b ≡ k → k ≢ Upload → b ≢ letter_u
not_upload b k e n same = n (sym e ∙ ap key_of same)

pub not_execute : (b : ℕ) (k : Key) → key_of b ≡ k → k ≢ Execute → b ≢ letter_e
not_execute b k e n same = n (sym e ∙ ap key_of same)
