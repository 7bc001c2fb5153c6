-- The items and the rest that are made of bytes are a split of them.
use Rattle.std.proofs.Common.{◌≡◌, ◌≢◌, ◌⊎◌, inl, inr, ℕ, zero, suc, ◌+◌, ◌-◌, ◌≤◌, ◌<◌, Bool, true, false, not, List, [], ◌∷◌, ◌++◌, length, take, drop, replicate, flat_map, Option, Some, None, if◌then◌else◌, nat_lt, ◌==◌, refl, sym, ap, ◌∙◌, arith, append_assoc, append-nil, length-append, length-take, drop_of_length-le, take_all, subst}
use Rattle.std.proofs.lemmas.List.{drop-append-le, length-replicate, take-append-le}
use Rattle.std.proofs.lemmas.Bool.Decides.{nat_tests}
use Rattle.image_tool.specs.Image.{is_allowed, size_of}
use Rattle.boot_gate.specs.Items.{Item, Single, Unsigned, Unfit, Whole, AreItems, IsItem, IsRest, IsSplit, IsUnfinished, Split, SplitsOnce, bytes_in, is_signed, items_of, letter_u, split_by, split_from, upload_of, with_byte}
use Rattle.boot_gate.proofs.Unique.{bytes-more, items-more, one_split}

-- what begins with u and isn't over, without its u

pub data IsPartial (room : ℕ) (tail : List ℕ) : Type 0 where
  -- the header isn't over
  heading : length tail < 12 → IsPartial room tail
  -- the payload isn't over
  loading : (header payload : List ℕ) → length header ≡ 12 → is_signed header ≡ true → is_allowed room (size_of header) ≡ true
      → length payload < size_of header → tail ≡ header ++ payload → IsPartial room tail

-- some zero bytes
some_zeros : (n : ℕ) → 0 < n → replicate {A = ℕ} n 0 ≢ []
some_zeros n h e = omega (arith, h, sym (length-replicate {A = ℕ} n 0) ∙ ap length e)

front-nil : (a b : List ℕ) → a ++ b ≡ [] → a ≡ []
front-nil [] b e = refl
front-nil (x ∷ a) b e = let bad : ⊥ = cc in elim bad [ ]

-- an item with this header, and what it has after it
heads_item : (room : ℕ) (header : List ℕ) (signed allowed : Bool) → length header ≡ 12 → is_signed header ≡ signed → is_allowed room (size_of header) ≡ allowed
    → (item : Item) × (more : List ℕ) × IsItem room item × (bytes_in item ≡ letter_u ∷ (header ++ more))
heads_item room header false allowed l s a = (Unsigned header, [], (l, s), ap (λ t. letter_u ∷ t) (sym (append-nil header)))
heads_item room header true false l s a = (Unfit header, [], (l, s, a), ap (λ t. letter_u ∷ t) (sym (append-nil header)))
heads_item room header true true l s a =
    (Whole header (replicate (size_of header) 0), replicate (size_of header) 0, (l, s, a, length-replicate {A = ℕ} (size_of header) 0), refl)

-- what isn't over is a proper prefix of an item
pub unfinished : (room : ℕ) (tail : List ℕ) → IsPartial room tail → IsUnfinished room (letter_u ∷ tail)
unfinished room tail (heading few) =
    let zeros : List ℕ = replicate (12 - length tail) 0 in
    let long : length (tail ++ zeros) ≡ 12 = omega (arith, length-append tail zeros, length-replicate {A = ℕ} (12 - length tail) 0, few) in
    let found = heads_item room (tail ++ zeros) (is_signed (tail ++ zeros)) (is_allowed room (size_of (tail ++ zeros))) long refl refl in
    record {
      tail = tail;
      begins = refl;
      item = found.0;
      is_item = found.2;
      missing = zeros ++ found.1;
      some = λ e. some_zeros (12 - length tail) (omega (arith, few)) (front-nil zeros found.1 e);
      whole = found.3 ∙ ap (λ t. letter_u ∷ t) (append_assoc tail zeros found.1);
    }
unfinished room tail (loading header payload l s a few is) =
    let left : ℕ = size_of header - length payload in
    let zeros : List ℕ = replicate left 0 in
    record {
      tail = tail;
      begins = refl;
      item = Whole header (payload ++ zeros);
      is_item = (l, s, a, omega (arith, length-append payload zeros, length-replicate {A = ℕ} left 0, few));
      missing = zeros;
      some = some_zeros left (omega (arith, few));
      whole = ap (λ t. letter_u ∷ t) (sym (append_assoc header payload zeros) ∙ ap (λ t. t ++ zeros) (sym is));
    }

-- one byte more after u: an item, or not over yet

pub data Grown (room : ℕ) (tail : List ℕ) : Option Item → Type 0 where
  ends : (item : Item) → IsItem room item → bytes_in item ≡ letter_u ∷ tail → Grown room tail (Some item)
  goes_on : IsPartial room tail → Grown room tail None

abbrev chosen : Bool → Bool → Bool → Bool → List ℕ → List ℕ → Option Item
chosen short signed allowed over header payload =
    if short then None
    else if not signed then Some (Unsigned header)
    else if not allowed then Some (Unfit header)
    else if over then Some (Whole header payload)
    else None

differs : (a b : ℕ) → (a == b) ≡ false → a ≢ b
differs a b e same = let yes : (a == b) ≡ true = grind (arith, nat_tests) in let bad : ⊥ = cc in bad

-- a whole header and so many bytes of its payload
grown_at : (room : ℕ) (header payload : List ℕ) (short signed allowed over : Bool) → length header ≡ 12
    → nat_lt (length header) 12 ≡ short → is_signed header ≡ signed → is_allowed room (size_of header) ≡ allowed → (length payload == size_of header) ≡ over
    → (signed ≡ false → payload ≡ []) → (allowed ≡ false → payload ≡ []) → (allowed ≡ true → length payload ≤ size_of header)
    → Grown room (header ++ payload) (chosen short signed allowed over header payload)
grown_at room header payload true signed allowed over l t s a o plain fit few = let bad : ⊥ = grind (arith, nat_tests) in elim bad [ ]
grown_at room header payload false false allowed over l t s a o plain fit few =
    ends (Unsigned header) (l, s) (ap (λ t. letter_u ∷ t) (sym (append-nil header) ∙ ap (λ p. header ++ p) (sym (plain refl))))
grown_at room header payload false true false over l t s a o plain fit few =
    ends (Unfit header) (l, s, a) (ap (λ t. letter_u ∷ t) (sym (append-nil header) ∙ ap (λ p. header ++ p) (sym (fit refl))))
grown_at room header payload false true true true l t s a o plain fit few =
    let same : length payload ≡ size_of header = grind (arith, nat_tests) in ends (Whole header payload) (l, s, a, same) refl
grown_at room header payload false true true false l t s a o plain fit few =
    goes_on (loading header payload l s a (lt_of (few refl) (differs (length payload) (size_of header) o)) refl)
  where
    lt_of : {a b : ℕ} → a ≤ b → a ≢ b → a < b
    lt_of h n = omega (arith, h, n)

-- an allowed size isn't zero
allowed_some : (room size : ℕ) → is_allowed room size ≡ true → 0 < size
allowed_some room zero e = let bad : ⊥ = cc in elim bad [ ]
allowed_some room (suc n) e = omega arith

take_front : (xs ys : List ℕ) (n : ℕ) → length xs ≡ n → take n (xs ++ ys) ≡ xs
take_front xs ys n e = subst (λ n. take n (xs ++ ys) ≡ xs) e (take-append-le (length xs) xs ys (omega arith) ∙ take_all (length xs) xs (omega arith))

drop_front : (xs ys : List ℕ) (n : ℕ) → length xs ≡ n → drop n (xs ++ ys) ≡ ys
drop_front xs ys n e = subst (λ n. drop n (xs ++ ys) ≡ ys) e (drop-append-le (length xs) xs ys (omega arith) ∙ ap (λ t. t ++ ys) (drop_of_length-le xs (omega arith)))

grown_whole : (room : ℕ) (header payload : List ℕ) → length header ≡ 12 → (is_signed header ≡ false → payload ≡ [])
    → (is_allowed room (size_of header) ≡ false → payload ≡ []) → (is_allowed room (size_of header) ≡ true → length payload ≤ size_of header)
    → Grown room (header ++ payload) (upload_of room (take 12 (header ++ payload)) (drop 12 (header ++ payload)))
grown_whole room header payload l plain fit few =
    subst (λ p. Grown room (header ++ payload) (upload_of room (take 12 (header ++ payload)) p)) (sym (drop_front header payload 12 l))
    (subst (λ h. Grown room (header ++ payload) (upload_of room h payload)) (sym (take_front header payload 12 l))
    (grown_at room header payload (nat_lt (length header) 12) (is_signed header) (is_allowed room (size_of header)) (length payload == size_of header) l refl refl refl refl plain fit few))

-- a header that isn't over is no item
short_none : (room : ℕ) (tail : List ℕ) (header payload : List ℕ) → length header < 12 → upload_of room header payload ≡ None
short_none room tail header payload h = let t : nat_lt (length header) 12 ≡ true = grind (arith, nat_tests) in rw t refl

less_or : (a b : ℕ) → a ≤ b → (a < b) ⊎ (a ≡ b)
less_or a b h = by (nat_lt a b) refl
  where
    by : (t : Bool) → nat_lt a b ≡ t → (a < b) ⊎ (a ≡ b)
    by true e = inl (grind (arith, nat_tests))
    by false e = let least : b ≤ a = grind (arith, nat_tests) in inr (omega (arith, h, least))

-- one byte more
grown : (room : ℕ) (tail : List ℕ) (byte : ℕ) → IsPartial room tail → Grown room (tail ++ byte ∷ []) (upload_of room (take 12 (tail ++ byte ∷ [])) (drop 12 (tail ++ byte ∷ [])))
grown room tail byte (heading few) =
    let long : length (tail ++ byte ∷ []) ≡ length tail + 1 = length-append tail (byte ∷ []) in
    elim (less_or (length (tail ++ byte ∷ [])) 12 (omega (arith, long, few)))
    as (λ _. Grown room (tail ++ byte ∷ []) (upload_of room (take 12 (tail ++ byte ∷ [])) (drop 12 (tail ++ byte ∷ [])))) [
      | inl less ↦
          let short : length (take 12 (tail ++ byte ∷ [])) < 12 = omega (arith, length-take 12 (tail ++ byte ∷ []), less) in
          subst (Grown room (tail ++ byte ∷ [])) (sym (short_none room tail (take 12 (tail ++ byte ∷ [])) (drop 12 (tail ++ byte ∷ [])) short)) (goes_on (heading less))
      | inr twelve ↦
          let t : List ℕ = tail ++ byte ∷ [] in
          subst (λ t. Grown room t (upload_of room (take 12 t) (drop 12 t))) (append-nil (tail ++ byte ∷ []))
          (grown_whole room (tail ++ byte ∷ []) [] twelve (λ e. refl) (λ e. refl) (λ e. omega arith))
    ]
grown room tail byte (loading header payload l s a few is) =
    subst (λ t. Grown room t (upload_of room (take 12 t) (drop 12 t))) (sym (ap (λ t. t ++ byte ∷ []) is ∙ append_assoc header payload (byte ∷ [])))
    (grown_whole room header (payload ++ byte ∷ []) l (λ e. elim (clash (sym s ∙ e)) [ ]) (λ e. elim (clash (sym a ∙ e)) [ ])
    (λ e. omega (arith, length-append payload (byte ∷ []), few)))
  where
    clash : true ≡ false → ⊥
    clash e = let bad : ⊥ = cc in bad

-- what isn't a whole item: nothing, or u and what comes after it
pub data Pending (room : ℕ) : List ℕ → Type 0 where
  nothing : Pending room []
  begun : (tail : List ℕ) → IsPartial room tail → Pending room (letter_u ∷ tail)

record Sound (room : ℕ) (bytes : List ℕ) (s : Split) : Type 0 where
  whole : bytes ≡ flat_map bytes_in s.items ++ s.rest
  each : AreItems room s.items
  pending : Pending room s.rest

-- an item ends, or none
sound_by : (room : ℕ) (bytes rest : List ℕ) (items : List Item) (found : Option Item) → bytes ≡ flat_map bytes_in items ++ rest → AreItems room items
    → ((item : Item) → found ≡ Some item → IsItem room item × (bytes_in item ≡ rest)) → (found ≡ None → Pending room rest) → Sound room bytes (split_by items rest found)
sound_by room bytes rest items None w each enders rests = record { whole = w; each = each; pending = rests refl }
sound_by room bytes rest items (Some item) w each enders rests =
    let it : IsItem room item × (bytes_in item ≡ rest) = enders item refl in
    record {
      whole = w ∙ ap (λ t. flat_map bytes_in items ++ t) (sym it.1) ∙ sym (bytes-more items item) ∙ sym (append-nil (flat_map bytes_in (items ++ item ∷ [])));
      each = items-more room items item each it.0;
      pending = nothing;
    }

sound_grown : (room : ℕ) (bytes tail : List ℕ) (items : List Item) (found : Option Item) → bytes ≡ flat_map bytes_in items ++ letter_u ∷ tail → AreItems room items
    → Grown room tail found → Sound room bytes (split_by items (letter_u ∷ tail) found)
sound_grown room bytes tail items found w each (ends item is same) =
    sound_by room bytes (letter_u ∷ tail) items (Some item) w each (λ other e. subst (λ i. IsItem room i × (bytes_in i ≡ letter_u ∷ tail)) (inside e) (is, same)) (λ e. let bad : ⊥ = cc in elim bad [ ])
  where
    inside : {i j : Item} → Some i ≡ Some j → i ≡ j
    inside e = cc
sound_grown room bytes tail items found w each (goes_on p) =
    sound_by room bytes (letter_u ∷ tail) items None w each (λ item e. let bad : ⊥ = cc in elim bad [ ]) (λ e. begun tail p)

-- the first byte of an item
sound_first : (room byte : ℕ) (bytes : List ℕ) (items : List Item) (is_u : Bool) → (byte == letter_u) ≡ is_u → bytes ≡ flat_map bytes_in items ++ byte ∷ [] → AreItems room items
    → Sound room bytes (split_by items (byte ∷ []) (if is_u then None else Some (Single byte)))
sound_first room byte bytes items true e w each =
    let is : byte ≡ letter_u = grind (arith, nat_tests) in
    record { whole = w; each = each; pending = subst (λ b. Pending room (b ∷ [])) (sym is) (begun [] (heading (omega arith))) }
sound_first room byte bytes items false e w each =
    sound_by room bytes (byte ∷ []) items (Some (Single byte)) w each (λ item h. subst (λ i. IsItem room i × (bytes_in i ≡ byte ∷ [])) (inside h) (differs byte letter_u e, refl)) (λ h. let bad : ⊥ = cc in elim bad [ ])
  where
    inside : {i j : Item} → Some i ≡ Some j → i ≡ j
    inside e = cc

-- one byte more keeps it
sound_more : (room byte : ℕ) (bytes : List ℕ) (items : List Item) (rest : List ℕ) → bytes ≡ flat_map bytes_in items ++ rest → AreItems room items → Pending room rest
    → Sound room (bytes ++ byte ∷ []) (with_byte room (record { items = items; rest = rest }) byte)
sound_more room byte bytes items rest w each nothing =
    sound_first room byte (bytes ++ byte ∷ []) items (byte == letter_u) refl (ap (λ t. t ++ byte ∷ []) (w ∙ append-nil (flat_map bytes_in items))) each
sound_more room byte bytes items rest w each (begun tail p) =
    sound_grown room (bytes ++ byte ∷ []) (tail ++ byte ∷ []) items (upload_of room (take 12 (tail ++ byte ∷ [])) (drop 12 (tail ++ byte ∷ [])))
    (ap (λ t. t ++ byte ∷ []) w ∙ append_assoc (flat_map bytes_in items) (letter_u ∷ tail) (byte ∷ [])) each (grown room tail byte p)

sound_from : (room : ℕ) (front more : List ℕ) (s : Split) → Sound room front s → Sound room (front ++ more) (split_from room s more)
sound_from room front [] s h = subst (λ b. Sound room b s) (sym (append-nil front)) h
sound_from room front (byte ∷ more) s h =
    subst (λ b. Sound room b (split_from room (with_byte room s byte) more)) (append_assoc front (byte ∷ []) more)
    (sound_from room (front ++ byte ∷ []) more (with_byte room s byte) (sound_more room byte front s.items s.rest h.whole h.each h.pending))

rest_of : (room : ℕ) (rest : List ℕ) → Pending room rest → IsRest room rest
rest_of room rest nothing = inl refl
rest_of room rest (begun tail p) = inr (unfinished room tail p)

-- the function's items and rest are a split, and the only one
pub splits_once : (room : ℕ) (bytes : List ℕ) → SplitsOnce room bytes
splits_once room bytes =
    let s : Sound room bytes (items_of room bytes) = sound_from room [] bytes (record { items = []; rest = [] }) (record { whole = refl; each = tt; pending = nothing }) in
    let is : IsSplit room bytes (items_of room bytes).items (items_of room bytes).rest =
    record { whole = s.whole; each = s.each; partial = rest_of room (items_of room bytes).rest s.pending } in
    record {
      is = is;
      one = λ items rest h. one_split room bytes items (items_of room bytes).items rest (items_of room bytes).rest h is;
    }
