-- Bytes are items and a rest in one way.
use Rattle.std.proofs.Common.{◌≡◌, inl, inr, ℕ, ◌≤◌, true, false, List, [], ◌∷◌, ◌++◌, length, flat_map, refl, sym, ap, ap₂, ◌∙◌, arith, append_assoc, append-nil, length-append}
use Rattle.std.proofs.lemmas.List.Concat.{flat_map-append}
use Rattle.image_tool.specs.Image.{is_allowed, size_of}
use Rattle.boot_gate.specs.Items.{Item, Single, Unsigned, Unfit, Whole, AreItems, IsItem, IsRest, IsSplit, bytes_in, is_signed, letter_u}

head-same : {x y : ℕ} {xs ys : List ℕ} → x ∷ xs ≡ y ∷ ys → x ≡ y
head-same e = cc

tail-same : {x y : ℕ} {xs ys : List ℕ} → x ∷ xs ≡ y ∷ ys → xs ≡ ys
tail-same e = cc

-- lists of one length at the front
pub front-same : (a b x y : List ℕ) → length a ≡ length b → a ++ x ≡ b ++ y → (a ≡ b) × (x ≡ y)
front-same [] [] x y h e = (refl, e)
front-same [] (c ∷ b) x y h e = absurd (omega (arith, h))
front-same (c ∷ a) [] x y h e = absurd (omega (arith, h))
front-same (c ∷ a) (d ∷ b) x y h e =
    let rest : (a ≡ b) × (x ≡ y) = front-same a b x y (omega (arith, h)) (tail-same e) in
    (ap₂ (λ (c : ℕ) (a : List ℕ). c ∷ a) (head-same e) rest.0, rest.1)

-- the last one of two lists: for a list of bytes that ends in e
pub last-same : (xs ys : List ℕ) (b c : ℕ) → xs ++ b ∷ [] ≡ ys ++ c ∷ [] → (xs ≡ ys) × (b ≡ c)
last-same [] [] b c e = (refl, head-same e)
last-same [] (y ∷ ys) b c e = absurd (omega (arith, ap length (tail-same e), length-append ys (c ∷ [])))
last-same (x ∷ xs) [] b c e = absurd (omega (arith, ap length (tail-same e), length-append xs (b ∷ [])))
last-same (x ∷ xs) (y ∷ ys) b c e =
    let rest : (xs ≡ ys) × (b ≡ c) = last-same xs ys b c (tail-same e) in
    (ap₂ (λ (c : ℕ) (a : List ℕ). c ∷ a) (head-same e) rest.0, rest.1)

apart : false ≡ true → ⊥
apart e = let bad : ⊥ = cc in bad

-- two headers at the front of the same bytes
heads-same : (g h x y : List ℕ) → length g ≡ 12 → length h ≡ 12 → letter_u ∷ (g ++ x) ≡ letter_u ∷ (h ++ y) → (g ≡ h) × (x ≡ y)
heads-same g h x y lg lh e = front-same g h x y (lg ∙ sym lh) (tail-same e)

-- no item is a front of another
pub item-same : (room : ℕ) (i j : Item) (x y : List ℕ) → IsItem room i → IsItem room j → bytes_in i ++ x ≡ bytes_in j ++ y → (i ≡ j) × (x ≡ y)
item-same room (Single b) (Single c) x y hi hj e = (ap Single (head-same e), tail-same e)
item-same room (Single b) (Unsigned h) x y hi hj e = elim (hi (head-same e)) [ ]
item-same room (Single b) (Unfit h) x y hi hj e = elim (hi (head-same e)) [ ]
item-same room (Single b) (Whole h p) x y hi hj e = elim (hi (head-same e)) [ ]
item-same room (Unsigned g) (Single c) x y hi hj e = elim (hj (sym (head-same e))) [ ]
item-same room (Unfit g) (Single c) x y hi hj e = elim (hj (sym (head-same e))) [ ]
item-same room (Whole g q) (Single c) x y hi hj e = elim (hj (sym (head-same e))) [ ]
item-same room (Unsigned g) (Unsigned h) x y hi hj e =
    let s : (g ≡ h) × (x ≡ y) = heads-same g h x y hi.0 hj.0 e in (ap Unsigned s.0, s.1)
item-same room (Unsigned g) (Unfit h) x y hi hj e =
    let s : (g ≡ h) × (x ≡ y) = heads-same g h x y hi.0 hj.0 e in
    elim (apart (sym hi.1 ∙ ap is_signed s.0 ∙ hj.1)) [ ]
item-same room (Unsigned g) (Whole h p) x y hi hj e =
    let s : (g ≡ h) × (x ≡ p ++ y) = heads-same g h x (p ++ y) hi.0 hj.0 (e ∙ ap (λ t. letter_u ∷ t) (append_assoc h p y)) in
    elim (apart (sym hi.1 ∙ ap is_signed s.0 ∙ hj.1)) [ ]
item-same room (Unfit g) (Unsigned h) x y hi hj e =
    let s : (g ≡ h) × (x ≡ y) = heads-same g h x y hi.0 hj.0 e in
    elim (apart (sym hj.1 ∙ ap is_signed (sym s.0) ∙ hi.1)) [ ]
item-same room (Unfit g) (Unfit h) x y hi hj e =
    let s : (g ≡ h) × (x ≡ y) = heads-same g h x y hi.0 hj.0 e in (ap Unfit s.0, s.1)
item-same room (Unfit g) (Whole h p) x y hi hj e =
    let s : (g ≡ h) × (x ≡ p ++ y) = heads-same g h x (p ++ y) hi.0 hj.0 (e ∙ ap (λ t. letter_u ∷ t) (append_assoc h p y)) in
    elim (apart (sym hi.2 ∙ ap (λ g. is_allowed room (size_of g)) s.0 ∙ hj.2)) [ ]
item-same room (Whole g q) (Unsigned h) x y hi hj e =
    let s : (g ≡ h) × (q ++ x ≡ y) = heads-same g h (q ++ x) y hi.0 hj.0 (ap (λ t. letter_u ∷ t) (sym (append_assoc g q x)) ∙ e) in
    elim (apart (sym hj.1 ∙ ap is_signed (sym s.0) ∙ hi.1)) [ ]
item-same room (Whole g q) (Unfit h) x y hi hj e =
    let s : (g ≡ h) × (q ++ x ≡ y) = heads-same g h (q ++ x) y hi.0 hj.0 (ap (λ t. letter_u ∷ t) (sym (append_assoc g q x)) ∙ e) in
    elim (apart (sym hj.2 ∙ ap (λ g. is_allowed room (size_of g)) (sym s.0) ∙ hi.2)) [ ]
item-same room (Whole g q) (Whole h p) x y hi hj e =
    let s : (g ≡ h) × (q ++ x ≡ p ++ y) = heads-same g h (q ++ x) (p ++ y) hi.0 hj.0
    (ap (λ t. letter_u ∷ t) (sym (append_assoc g q x)) ∙ e ∙ ap (λ t. letter_u ∷ t) (append_assoc h p y)) in
    let t : (q ≡ p) × (x ≡ y) = front-same q p x y (hi.3 ∙ ap size_of s.0 ∙ sym hj.3) s.1 in
    (ap₂ Whole s.0 t.0, t.1)

-- no item is empty
pub some-bytes : (i : Item) → 1 ≤ length (bytes_in i)
some-bytes (Single b) = omega arith
some-bytes (Unsigned h) = omega arith
some-bytes (Unfit h) = omega arith
some-bytes (Whole h p) = omega arith

nil-of : (a b : List ℕ) → a ++ b ≡ [] → b ≡ []
nil-of [] b e = e
nil-of (x ∷ a) b e = let bad : ⊥ = cc in elim bad [ ]

bytes-some : (i : Item) (x : List ℕ) → bytes_in i ++ x ≡ [] → ⊥
bytes-some i x e = omega (arith, ap length e, length-append (bytes_in i) x, some-bytes i)

-- an item is at the front of no rest
rest-short : (room : ℕ) (i : Item) (x rest : List ℕ) → IsItem room i → bytes_in i ++ x ≡ rest → IsRest room rest → ⊥
rest-short room i x rest hi e (inl h) = bytes-some i x (e ∙ h)
rest-short room i x rest hi e (inr h) =
    let whole : bytes_in i ++ (x ++ h.missing) ≡ bytes_in h.item ++ [] =
    sym (append_assoc (bytes_in i) x h.missing) ∙ ap (λ t. t ++ h.missing) e ∙ sym h.whole ∙ sym (append-nil (bytes_in h.item)) in
    h.some (nil-of x h.missing (item-same room i h.item (x ++ h.missing) [] hi h.is_item whole).1)

split-same : (room : ℕ) (is js : List Item) (r s : List ℕ) → AreItems room is → AreItems room js → IsRest room r → IsRest room s
    → flat_map bytes_in is ++ r ≡ flat_map bytes_in js ++ s → (is ≡ js) × (r ≡ s)
split-same room [] [] r s hi hj hr hs e = (refl, e)
split-same room [] (j ∷ js) r s hi hj hr hs e =
    elim (rest-short room j (flat_map bytes_in js ++ s) r hj.0 (sym (e ∙ append_assoc (bytes_in j) (flat_map bytes_in js) s)) hr) [ ]
split-same room (i ∷ is) [] r s hi hj hr hs e =
    elim (rest-short room i (flat_map bytes_in is ++ r) s hi.0 (sym (append_assoc (bytes_in i) (flat_map bytes_in is) r) ∙ e) hs) [ ]
split-same room (i ∷ is) (j ∷ js) r s hi hj hr hs e =
    let first : (i ≡ j) × (flat_map bytes_in is ++ r ≡ flat_map bytes_in js ++ s) =
    item-same room i j (flat_map bytes_in is ++ r) (flat_map bytes_in js ++ s) hi.0 hj.0
    (sym (append_assoc (bytes_in i) (flat_map bytes_in is) r) ∙ e ∙ append_assoc (bytes_in j) (flat_map bytes_in js) s) in
    let rest : (is ≡ js) × (r ≡ s) = split-same room is js r s hi.1 hj.1 hr hs first.1 in
    (ap₂ (λ (i : Item) (is : List Item). i ∷ is) first.0 rest.0, rest.1)

-- two splits of the same bytes are one
pub one_split : (room : ℕ) (bytes : List ℕ) (is js : List Item) (r s : List ℕ) → IsSplit room bytes is r → IsSplit room bytes js s → (is ≡ js) × (r ≡ s)
one_split room bytes is js r s a b = split-same room is js r s a.each b.each a.partial b.partial (sym a.whole ∙ b.whole)

-- one item more
pub items-more : (room : ℕ) (is : List Item) (i : Item) → AreItems room is → IsItem room i → AreItems room (is ++ i ∷ [])
items-more room [] i h k = (k, tt)
items-more room (j ∷ is) i h k = (h.0, items-more room is i h.1 k)

-- and its bytes
pub bytes-more : (is : List Item) (i : Item) → flat_map bytes_in (is ++ i ∷ []) ≡ flat_map bytes_in is ++ bytes_in i
bytes-more is i = flat_map-append bytes_in is (i ∷ []) ∙ ap (λ t. flat_map bytes_in is ++ t) (append-nil (bytes_in i))
