-- What a list of groups prints is read as these groups.
use Rattle.std.proofs.Common.{◌≡◌, ◌<◌, ◌+◌, ℕ, zero, suc, Bool, true, false, cond, List, [], ◌∷◌, length, Option, Some, None, slice_index_or, slice_index, refl, sym, ap, ◌∙◌, subst, arith, rules, map, zero-add}
use Rattle.std.specs.Prelude.{◌==◌, ◌&&◌, ◌||◌, not, All, Contains, flat_map, filter, codes, IsPermutation, IsSomeAnd, option_map, count_by}
use Rattle.std.specs.List.{list_any, list_all, join_with_byte}
use Rattle.std.specs.Str.{bytes_eq}
use Rattle.std.proofs.lemmas.Slice.Eq.{bytes_eq-Decides}
use Rattle.std.proofs.lemmas.List.{map-append, map-id, get_or-map, length-map}
use Rattle.std.proofs.lemmas.Simd.{map-map}
use Rattle.std.proofs.lemmas.List.Elements.{All-nil, All-cons, All-head, All-tail, All-append, All-weaker, All-get_or, All-from_recursion, Contains-append_left, Contains-append_right, filter-append}
use Rattle.std.proofs.lemmas.List.Folds.{list_all-append, list_all-map}
use Rattle.std.proofs.lemmas.List.Sums.{AllPass-from_list_all, list_all-from_AllPass, length-filter}
use Rattle.std.proofs.lemmas.List.Sorted.{All-permutation, IsPermutation-sym, sum_by-IsPermutation, length_permutation}
use Rattle.std.proofs.lemmas.List.Splits.{slice_split_none, slice_split_at}
use Rattle.chip_base.specs.UnitTable.{lane_names}
use Rattle.chip_base.specs.Groups.{Text, is_lane, pieces, named_groups, numbered, groups_with, only, all_some, each_once, groups_of, text_of, IsGrouping, AreNumbersOf}
use Rattle.chip_base.specs.declared.groups.Groups.{Groups}
use Rattle.chip_base.proofs.groups.Groups.read.Goals as goal

and_yes : (a b : Bool) → (a && b) ≡ true → (a ≡ true) × (b ≡ true)
and_yes true b both = (refl, both)
and_yes false b both = cc

not_yes : (a : Bool) → not a ≡ true → a ≡ false
not_yes true holds = cc
not_yes false holds = refl

-- what a test says of each lane's name, it says of a name that is a lane's
passes : (test : Text → Bool) (lanes : List Text) (name : Text) → list_all test lanes ≡ true → list_any (bytes_eq name) lanes ≡ true → test name ≡ true
passes test [] name all found = cc
passes test (lane ∷ lanes) name all found =
    elim (bytes_eq name lane) as (λ b. bytes_eq name lane ≡ b → (b || list_any (bytes_eq name) lanes) ≡ true → test name ≡ true) [
      | true ↦ λ same _. ap test ((bytes_eq-Decides name lane).0 same) ∙ (and_yes (test lane) (list_all test lanes) all).0
      | false ↦ λ other rest. passes test lanes name (and_yes (test lane) (list_all test lanes) all).1 rest
    ] refl found

-- a byte that a text lacks
abbrev Lacks : ℕ → Text → Type 0
Lacks c text = All (λ b. b == c ≡ false) text

-- the same from a test
lacking : (c : ℕ) (name : Text) → list_all (λ b. not (b == c)) name ≡ true → Lacks c name
lacking c name all = All-weaker (λ b. not (b == c) ≡ true) (λ b. b == c ≡ false) (λ b holds. not_yes (b == c) holds) name (AllPass-from_list_all (λ b. not (b == c)) name all)

-- no lane has a comma or a slash in its name
no_comma : (name : Text) → is_lane name ≡ true → Lacks 44 name
no_comma name known = lacking 44 name (passes (λ x. list_all (λ b. not (b == 44)) x) lane_names name refl known)

no_slash : (name : Text) → is_lane name ≡ true → Lacks 47 name
no_slash name known = lacking 47 name (passes (λ x. list_all (λ b. not (b == 47)) x) lane_names name refl known)

-- texts joined by a byte that they lack come apart there
split_join : (c : ℕ) (xs : List Text) → c == c ≡ true → 0 < length xs → All (λ x. Lacks c x) xs → pieces c (join_with_byte c xs) ≡ xs
split_join c [] same some lack = absurd (omega arith)
split_join c (x ∷ []) same some lack = slice_split_none (λ b. b == c) x (All-head (λ y. Lacks c y) x [] lack)
split_join c (x ∷ y ∷ xs) same some lack =
    slice_split_at (λ b. b == c) x c (join_with_byte c (y ∷ xs)) (All-head (λ z. Lacks c z) x (y ∷ xs) lack) same
    ∙ ap (λ ps. x ∷ ps) (split_join c (y ∷ xs) same (omega arith) (All-tail (λ z. Lacks c z) x (y ∷ xs) lack))

-- nor has the text of a group a slash
joined_lacks : (names : List Text) → list_all is_lane names ≡ true → Lacks 47 (join_with_byte 44 names)
joined_lacks [] known = All-nil (λ b. b == 47 ≡ false)
joined_lacks (x ∷ []) known = no_slash x (and_yes (is_lane x) true known).0
joined_lacks (x ∷ y ∷ names) known =
    let both = and_yes (is_lane x) (list_all is_lane (y ∷ names)) known in
    All-append (λ b. b == 47 ≡ false) x (44 ∷ join_with_byte 44 (y ∷ names)) (no_slash x both.0) (All-cons (λ b. b == 47 ≡ false) 44 (join_with_byte 44 (y ∷ names)) refl (joined_lacks (y ∷ names) both.1))

-- the texts of groups, cut at commas
cut_names : (groups : List (List Text)) → All (λ names. 0 < length names) groups → list_all is_lane (flat_map (λ names. names) groups) ≡ true → map (pieces 44) (map (join_with_byte 44) groups) ≡ groups
cut_names [] filled known = refl
cut_names (names ∷ groups) filled known =
    let both = and_yes (list_all is_lane names) (list_all is_lane (flat_map (λ x. x) groups)) (sym (list_all-append is_lane names (flat_map (λ x. x) groups)) ∙ known) in
    let lack = All-weaker (λ x. is_lane x ≡ true) (λ x. Lacks 44 x) no_comma names (AllPass-from_list_all is_lane names both.0) in
    rw (split_join 44 names refl (All-head (λ x. 0 < length x) names groups filled) lack, cut_names groups (All-tail (λ x. 0 < length x) names groups filled) both.1) refl

-- nor have the texts of all groups
texts_lack : (groups : List (List Text)) → list_all is_lane (flat_map (λ names. names) groups) ≡ true → All (λ x. Lacks 47 x) (map (join_with_byte 44) groups)
texts_lack [] known = All-nil (λ x. Lacks 47 x)
texts_lack (names ∷ groups) known =
    let both = and_yes (list_all is_lane names) (list_all is_lane (flat_map (λ x. x) groups)) (sym (list_all-append is_lane names (flat_map (λ x. x) groups)) ∙ known) in
    All-cons (λ x. Lacks 47 x) (join_with_byte 44 names) (map (join_with_byte 44) groups) (joined_lacks names both.0) (texts_lack groups both.1)

-- what groups print, cut at slashes and commas
cut_groups : (groups : List (List Text)) → 0 < length groups → All (λ names. 0 < length names) groups → list_all is_lane (flat_map (λ names. names) groups) ≡ true → named_groups (text_of groups) ≡ groups
cut_groups groups some filled known =
    let long : 0 < length (map (join_with_byte 44) groups) = rw (length-map groups (join_with_byte 44)) some in
    ap (map (pieces 44)) (split_join 47 (map (join_with_byte 44) groups) refl long (texts_lack groups known)) ∙ cut_names groups filled known

-- the numbered names, without their numbers
names_of : (number : ℕ) (groups : List (List Text)) → map (λ p. p.0) (numbered number groups) ≡ flat_map (λ names. names) groups
unfolding numbered
names_of number [] = refl
names_of number (names ∷ groups) =
    map-append (λ p. p.0) (map (λ x. (x, number)) names) (numbered (number + 1) groups)
    ∙ (rw (map-map (λ (p : Text × ℕ). p.0) (λ x. (x, number)) names, map-id names, names_of (number + 1) groups) refl)

-- as many groups as the name stands in places
same_many : (names : List (Text × ℕ)) (lane : Text) → length (groups_with names lane) ≡ length (filter (λ x. bytes_eq x lane) (map (λ p. p.0) names))
same_many [] lane = refl
same_many (p ∷ names) lane =
    elim (bytes_eq p.0 lane) as (λ b. length (map (λ (q : Text × ℕ). q.1) (cond b (p ∷ filter (λ q. bytes_eq q.0 lane) names) (filter (λ q. bytes_eq q.0 lane) names)))
    ≡ length (cond b (p.0 ∷ filter (λ x. bytes_eq x lane) (map (λ q. q.0) names)) (filter (λ x. bytes_eq x lane) (map (λ q. q.0) names)))) [
      | true ↦ ap suc (same_many names lane)
      | false ↦ same_many names lane
    ]

-- the one element of a list of one element
only_one : (xs : List ℕ) → length xs ≡ 1 → only xs ≡ Some (slice_index xs 0)
only_one [] one = absurd (omega arith)
only_one (x ∷ []) one = refl
only_one (x ∷ y ∷ xs) one = absurd (omega arith)

-- and what such a list contains
only_it : (xs : List ℕ) (x : ℕ) → length xs ≡ 1 → Contains xs x → slice_index xs 0 ≡ x
only_it [] x one has = absurd (omega arith)
only_it (y ∷ []) x one (zero, within, here) = here
only_it (y ∷ []) x one (suc k, within, here) = absurd (omega arith)
only_it (y ∷ z ∷ xs) x one has = absurd (omega arith)

-- where each lane stands in one group, each has a number
all_found : (f : Text → List ℕ) (lanes : List Text) → All (λ lane. length (f lane) ≡ 1) lanes → all_some (map (λ lane. only (f lane)) lanes) ≡ Some (map (λ lane. slice_index (f lane) 0) lanes)
all_found f [] one = refl
all_found f (lane ∷ lanes) one =
    rw (only_one (f lane) (All-head (λ x. length (f x) ≡ 1) lane lanes one), all_found f lanes (All-tail (λ x. length (f x) ≡ 1) lane lanes one)) refl

-- each lane's name stands once among the lanes' names
each_lane : All (λ lane. count_by (λ x. bytes_eq x lane) lane_names ≡ 1) lane_names
each_lane = All-from_recursion (λ lane. count_by (λ x. bytes_eq x lane) lane_names ≡ 1) lane_names (refl, (refl, (refl, (refl, (refl, (refl, (refl, (refl, tt))))))))

-- so it does among the names of a grouping
one_each : (groups : List (List Text)) → IsGrouping groups → (lane : Text) → count_by (λ x. bytes_eq x lane) lane_names ≡ 1 → length (groups_with (numbered 0 groups) lane) ≡ 1
one_each groups fits lane once =
    same_many (numbered 0 groups) lane
    ∙ ap (λ xs. length (filter (λ x. bytes_eq x lane) xs)) (names_of 0 groups)
    ∙ length-filter (λ x. bytes_eq x lane) (flat_map (λ x. x) groups)
    ∙ sym (sum_by-IsPermutation (λ x. cond (bytes_eq x lane) 1 0) (flat_map (λ x. x) groups) lane_names fits.lanes)
    ∙ once

-- a name of a group stands in it
in_group : (names : List Text) (number : ℕ) (name : Text) → Contains names name → Contains (groups_with (map (λ x. (x, number)) names) name) number
in_group [] number name has = absurd (omega (arith, has.1))
in_group (x ∷ names) number name has =
    let found = λ (b : Bool). map (λ (q : Text × ℕ). q.1) (cond b ((x, number) ∷ filter (λ q. bytes_eq q.0 name) (map (λ y. (y, number)) names)) (filter (λ q. bytes_eq q.0 name) (map (λ y. (y, number)) names))) in
    elim (bytes_eq x name) as (λ b. bytes_eq x name ≡ b → Contains (found b) number) [
      | true ↦ λ same. (0, omega arith, refl)
      | false ↦ λ other. in_group names number name (later x names name other has)
    ] refl
  where
    later : (x : Text) (names : List Text) (name : Text) → bytes_eq x name ≡ false → Contains (x ∷ names) name → Contains names name
    later x names name other (zero, within, here) = let same = (bytes_eq-Decides x name).1 here in cc
    later x names name other (suc k, within, here) = (k, omega arith, here)

-- a name of the k-th group stands in the group of that number
in_numbered : (groups : List (List Text)) (start k : ℕ) (name : Text) → Contains (slice_index_or groups k []) name → Contains (groups_with (numbered start groups) name) (start + k)
unfolding numbered
in_numbered [] start k name has = absurd (omega (arith, has.1))
in_numbered (names ∷ groups) start zero name has =
    let here : start + 0 ≡ start = omega arith in
    rw (here, filter-append (λ (p : Text × ℕ). bytes_eq p.0 name) (map (λ x. (x, start)) names) (numbered (start + 1) groups), map-append)
    (Contains-append_left (groups_with (map (λ x. (x, start)) names) name) (groups_with (numbered (start + 1) groups) name) start (in_group names start name has))
in_numbered (names ∷ groups) start (suc k) name has =
    let next : start + suc k ≡ start + 1 + k = omega arith in
    rw (next, filter-append (λ (p : Text × ℕ). bytes_eq p.0 name) (map (λ x. (x, start)) names) (numbered (start + 1) groups), map-append)
    (Contains-append_right (groups_with (map (λ x. (x, start)) names) name) (groups_with (numbered (start + 1) groups) name) (start + 1 + k) (in_numbered groups (start + 1) k name has))

-- what is read of what these groups print
numbers : List (List Text) → List ℕ
numbers groups = map (λ lane. slice_index (groups_with (numbered 0 groups) lane) 0) lane_names

-- they are the places of the groups
are_numbers : (groups : List (List Text)) → IsGrouping groups → AreNumbersOf groups (numbers groups)
unfolding numbers
are_numbers groups fits lane number below stands =
    let name = slice_index_or lane_names lane [] in
    get_or-map (λ x. slice_index (groups_with (numbered 0 groups) x) 0) lane_names lane [] 0 below
    ∙ only_it (groups_with (numbered 0 groups) name) number (one_each groups fits name (All-get_or (λ x. count_by (λ y. bytes_eq y x) lane_names ≡ 1) lane_names lane [] below each_lane)) (rw (zero-add number) at (in_numbered groups 0 number name stands))

-- each name of a grouping is a lane's
all_known : (groups : List (List Text)) → IsGrouping groups → list_all is_lane (flat_map (λ names. names) groups) ≡ true
all_known groups fits =
    list_all-from_AllPass is_lane (flat_map (λ x. x) groups)
    (All-permutation (λ x. is_lane x ≡ true) lane_names (flat_map (λ x. x) groups) (IsPermutation-sym (flat_map (λ x. x) groups) lane_names fits.lanes) (AllPass-from_list_all is_lane lane_names refl))

-- a grouping has a group
some_group : (groups : List (List Text)) → IsPermutation (flat_map (λ names. names) groups) lane_names → 0 < length groups
some_group [] lanes = absurd (omega (arith, length_permutation [] lane_names lanes))
some_group (names ∷ groups) lanes = omega arith

each_found : (groups : List (List Text)) → IsGrouping groups → each_once (numbered 0 groups) ≡ Some (numbers groups)
unfolding each_once numbers
each_found groups fits =
    let known : list_all (λ p. is_lane p.0) (numbered 0 groups) ≡ true = sym (list_all-map is_lane (λ (p : Text × ℕ). p.0) (numbered 0 groups)) ∙ ap (list_all is_lane) (names_of 0 groups) ∙ all_known groups fits in
    rw known (all_found (groups_with (numbered 0 groups)) lane_names (All-weaker (λ lane. count_by (λ x. bytes_eq x lane) lane_names ≡ 1) (λ lane. length (groups_with (numbered 0 groups) lane) ≡ 1) (one_each groups fits) lane_names each_lane))

-- a grouping prints no word that isn't a lane's name
no_word : (groups : List (List Text)) (word : Text) → IsGrouping groups → list_all is_lane (flat_map (λ x. x) (named_groups word)) ≡ false → bytes_eq (text_of groups) word ≡ false
no_word groups word fits unknown =
    elim (bytes_eq (text_of groups) word) as (λ b. bytes_eq (text_of groups) word ≡ b → b ≡ false) [
      | true ↦ λ same.
          let cut = cut_groups groups (some_group groups fits.lanes) fits.filled (all_known groups fits) in
          let there : named_groups word ≡ groups = ap named_groups (sym ((bytes_eq-Decides (text_of groups) word).0 same)) ∙ cut in
          sym (all_known groups fits) ∙ ap (λ g. list_all is_lane (flat_map (λ x. x) g)) (sym there) ∙ unknown
      | false ↦ λ other. refl
    ] refl

printed_read : (groups : List (List Text)) → IsGrouping groups → groups_of (text_of groups) ≡ Some (numbers groups)
printed_read groups fits =
    rw (no_word groups (codes "all") fits refl, no_word groups (codes "each") fits refl)
    (ap (λ g. each_once (numbered 0 g)) (cut_groups groups (some_group groups fits.lanes) fits.filled (all_known groups fits)) ∙ each_found groups fits)

-- the clause `printed`, from the clause `value`
read_back : (o : Option Groups) (text : Text) → option_map (λ g. g.of) o ≡ groups_of text → (groups : List (List Text)) → IsGrouping groups → text ≡ text_of groups → IsSomeAnd o (λ g. AreNumbersOf groups g.of)
read_back None text value groups fits prints = let none : None ≡ Some (numbers groups) = value ∙ ap groups_of prints ∙ printed_read groups fits in cc
read_back (Some g) text value groups fits prints =
    let some : Some g.of ≡ Some (numbers groups) = value ∙ ap groups_of prints ∙ printed_read groups fits in
    let same : g.of ≡ numbers groups = cc in
    subst (AreNumbersOf groups) (sym same) (are_numbers groups fits)

pub returns-in_err-of-in_default-clause-printed : goal.returns-in_err-of-in_default-clause-printed
returns-in_err-of-in_default-clause-printed c = read_back _ c.args.text.now (search rules)

pub returns-in-all-clause-printed : goal.returns-in-all-clause-printed
returns-in-all-clause-printed c = read_back (Some (record { of = 0 ∷ 0 ∷ 0 ∷ 0 ∷ 0 ∷ 0 ∷ 0 ∷ 0 ∷ [] })) c.args.text.now (search rules)

pub returns-in-each-clause-printed : goal.returns-in-each-clause-printed
returns-in-each-clause-printed c = read_back (Some (record { of = 0 ∷ 1 ∷ 2 ∷ 3 ∷ 4 ∷ 5 ∷ 6 ∷ 7 ∷ [] })) c.args.text.now (search rules)

pub returns-in_ok-of-in_default-clause-printed : goal.returns-in_ok-of-in_default-clause-printed
returns-in_ok-of-in_default-clause-printed c = read_back (Some (record { of = c.in_ok-of-in_default.of })) c.args.text.now (search rules)
