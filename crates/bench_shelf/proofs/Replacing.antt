-- The first file of a name, and what stands there after it was replaced.
use Rattle.std.proofs.Common.{◌≡◌, ℕ, suc, ◌+◌, ◌<◌, List, [], ◌∷◌, ◌++◌, length, get_or, take, drop, set, Option, Some, None, Bool, true, false, if◌then◌else◌, String, Vec, string_bytes, refl, ap, sym, ◌∙◌, add-one, drop-cons, append-nil, slice_get}
use Rattle.std.specs.Option.{option_map}
use Rattle.std.proofs.lemmas.List.{take-append-drop, take-set, drop-set, take_more}
use Rattle.std.proofs.lemmas.Option.{slice_get_read}
use Rattle.std.proofs.lemmas.Slice.Eq.{bytes_eq-Decides}
use Rattle.std.specs.Str.{bytes_eq}
use Rattle.std.specs.declared.alloc.Global.{Global}
use Rattle.bench_shelf.specs.Files.{file_in}

-- a name and its bytes
abbrev pub File : Type 0
File = String Global × Vec ℕ Global

is_false : (b : Bool) → (b ≡ true → ⊥) → b ≡ false
is_false true h = absurd (h refl)
is_false false h = refl

-- a test that found nothing so far failed at this file too
skipped : (b : Bool) (bytes : List ℕ) (rest longer other : Option (List ℕ)) → (if b then Some bytes else rest) ≡ None → (rest ≡ None → longer ≡ other)
    → (if b then Some bytes else longer) ≡ other
skipped true bytes rest longer other none then_same = absurd (cc)
skipped false bytes rest longer other none then_same = then_same none

-- files in front without the name don't matter
pub found_behind : (front back : List File) (name : List ℕ) → file_in front name ≡ None → file_in (front ++ back) name ≡ file_in back name
found_behind [] back name none = refl
found_behind (file ∷ front) back name none =
    skipped (bytes_eq (string_bytes file.0) name) file.1.items (file_in front name) (file_in (front ++ back) name) (file_in back name) none (found_behind front back name)

-- a file of another name doesn't matter
pub passed_over : (front back : List File) (file : File) (name : List ℕ) → (string_bytes file.0 ≡ name → ⊥) → file_in (front ++ file ∷ back) name ≡ file_in (front ++ back) name
passed_over [] back file name other = rw (is_false (bytes_eq (string_bytes file.0) name) (λ e. other ((bytes_eq-Decides (string_bytes file.0) name).0 e))) refl
passed_over (first ∷ front) back file name other =
    ap (λ t. if bytes_eq (string_bytes first.0) name then Some first.1.items else t) (passed_over front back file name other)

-- a file in front is found by its name
pub has_name : (file : File) (back : List File) (name : List ℕ) → string_bytes file.0 ≡ name → file_in (file ∷ back) name ≡ Some file.1.items
has_name file back name same = rw ((bytes_eq-Decides (string_bytes file.0) name).1 same) refl

-- the files around one place
pub around : (files : List File) (i : ℕ) (file : File) → i < length files → file ≡ get_or files i file → files ≡ take i files ++ file ∷ drop (i + 1) files
around files i file lt at = sym (take-append-drop i files) ∙ ap (λ t. take i files ++ t) (drop-cons files i file lt ∙ ap (λ f. f ∷ drop (suc i) files) (sym at) ∙ rw add-one refl)

-- the files after one was replaced
pub replaced : (files : List File) (i : ℕ) (file : File) → i < length files → set files i file ≡ take i files ++ file ∷ drop (i + 1) files
replaced files i file lt = sym (take-append-drop i (set files i file)) ∙ rw (take-set files i file) (ap (λ t. take i files ++ t) (drop-set files i file lt))

-- no file so far has the name
pub none_so_far : (files : List File) (i : ℕ) (file : File) (name : List ℕ) → i < length files → file ≡ get_or files i file → file_in (take i files) name ≡ None
    → (string_bytes file.0 ≡ name → ⊥) → file_in (take (i + 1) files) name ≡ None
none_so_far files i file name lt at none other =
    ap (λ fs. file_in fs name) (take_more files i file lt ∙ ap (λ f. take i files ++ f ∷ []) (sym at)) ∙ passed_over (take i files) [] file name other
    ∙ found_behind (take i files) [] name none

-- the first file of a name
pub first_found : (files : List File) (i : ℕ) (file : File) (name : List ℕ) → i < length files → file ≡ get_or files i file → file_in (take i files) name ≡ None
    → string_bytes file.0 ≡ name → file_in files name ≡ Some file.1.items
first_found files i file name lt at none same =
    ap (λ fs. file_in fs name) (around files i file lt at) ∙ found_behind (take i files) (file ∷ drop (i + 1) files) name none
    ∙ has_name file (drop (i + 1) files) name same

-- after the first file of a name was replaced, the name has the new bytes
pub replaced_found : (files : List File) (i : ℕ) (file : File) (name : List ℕ) → i < length files → file_in (take i files) name ≡ None → string_bytes file.0 ≡ name
    → file_in (set files i file) name ≡ Some file.1.items
replaced_found files i file name lt none same =
    ap (λ fs. file_in fs name) (replaced files i file lt) ∙ found_behind (take i files) (file ∷ drop (i + 1) files) name none
    ∙ has_name file (drop (i + 1) files) name same

-- and the other names have what they had
pub replaced_others : (files : List File) (i : ℕ) (old new : File) (name : List ℕ) → i < length files → old ≡ get_or files i old → string_bytes new.0 ≡ string_bytes old.0
    → (string_bytes old.0 ≡ name → ⊥) → file_in (set files i new) name ≡ file_in files name
replaced_others files i old new name lt at same other =
    ap (λ fs. file_in fs name) (replaced files i new lt) ∙ passed_over (take i files) (drop (i + 1) files) new name (λ e. other (sym same ∙ e))
    ∙ sym (passed_over (take i files) (drop (i + 1) files) old name other) ∙ sym (ap (λ fs. file_in fs name) (around files i old lt at))

-- the name at a place
pub name_at : (files : List File) (i : ℕ) (file : File) (name : List ℕ) → i < length files → file ≡ get_or files i file
    → option_map (λ (f : File). string_bytes f.0) (slice_get files i) ≡ Some name → string_bytes file.0 ≡ name
name_at files i file name lt at named =
    let read : slice_get files i ≡ Some file = slice_get_read files (length files) i file refl lt at in
    let both : Some (string_bytes file.0) ≡ Some name = sym (ap (option_map (λ (f : File). string_bytes f.0)) read) ∙ named in cc

pub named_at : (files : List File) (i : ℕ) (file : File) (name : List ℕ) → i < length files → file ≡ get_or files i file → string_bytes file.0 ≡ name
    → option_map (λ (f : File). string_bytes f.0) (slice_get files i) ≡ Some name
named_at files i file name lt at same = ap (option_map (λ (f : File). string_bytes f.0)) (slice_get_read files (length files) i file refl lt at) ∙ ap Some same

-- a file behind the others, none of which has its name
pub behind_found : (files : List File) (file : File) (name : List ℕ) → file_in files name ≡ None → string_bytes file.0 ≡ name
    → file_in (files ++ file ∷ []) name ≡ Some file.1.items
behind_found files file name none same = found_behind files (file ∷ []) name none ∙ has_name file [] name same

pub behind_others : (files : List File) (file : File) (name : List ℕ) → (string_bytes file.0 ≡ name → ⊥) → file_in (files ++ file ∷ []) name ≡ file_in files name
behind_others files file name other = passed_over files [] file name other ∙ ap (λ fs. file_in fs name) (append-nil files)
