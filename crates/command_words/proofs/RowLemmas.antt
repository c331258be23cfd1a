-- What the getters of `clap` read, by the rows.
use Rattle.std.proofs.Common.{◌≡◌, ◌∙◌, ℕ, List, Option, Some, None, option_map, option_and_then, find, bytes_eq}
use Rattle.std.proofs.Common.{codes, IfSome, ap, sym, refl}
use Rattle.std.specs.Str.Parse.{without_leading_plus, digits_value}
use Rattle.clap.specs.Words.{Row, Text, all_of, matched_of, rows_of}
use Rattle.clap.specs.Matches.{raw_values}
use Rattle.clap.specs.declared.parser.matches.Found.{Found}
use Rattle.clap.specs.Walk.{row_text}
use Rattle.command_words.specs.Command.{IsNumberFound, IsNumberAt, Files, NamesFiles}
use Rattle.command_words.specs.Command.{BuildFiles, NamesBuild, ObjectFiles, NamesObject}
use Rattle.clap.proofs.WalkLemmas.{one_text-rows, raw_values-rows}

-- what has no match has no row
pub no_match : (f : Found) (id : Text) → matched_of f id ≡ None → all_of id (rows_of f) ≡ None
no_match f id none = sym (raw_values-rows f id) ∙ ap (option_map raw_values) none

-- a number found is a number of the rows
pub number_by_rows : (f : Found) (id : Text) (o : Option ℕ) → IsNumberFound id f o → IsNumberAt id (rows_of f) o
number_by_rows f id None none = no_match f id none
number_by_rows f id (Some n) is = (is.0, sym (one_text-rows f id) ∙ is.1, is.2, is.3)

-- a fact of what is there
pub if_some : {X : Type 0} (P Q : X → Type 0) → ((x : X) → P x → Q x) → (o : Option X) → IfSome o P → IfSome o Q
if_some P Q step None holds = holds
if_some P Q step (Some x) holds = step x holds

-- what stands for nothing gives nothing
none_either : {X Y Z : Type 0} (f : X → Y) (g : X → Option Z) (o : Option X) → option_map f o ≡ None →
    option_and_then g o ≡ None
none_either f g None none = refl
none_either f g (Some x) none = absurd (let never : ⊥ = cc in never)

-- rows give one number
pub one_number : (id : Text) (rows : List Row) (a b : Option ℕ) → IsNumberAt id rows a → IsNumberAt id rows b → a ≡ b
one_number id rows None None x y = refl
one_number id rows None (Some m) x y =
    absurd (let never : ⊥ = cc (none_either (λ r. r.values) row_text (find (λ r. bytes_eq r.id id) rows) x, y.1) in
    never)
one_number id rows (Some n) None x y =
    absurd (let never : ⊥ = cc (none_either (λ r. r.values) row_text (find (λ r. bytes_eq r.id id) rows) y, x.1) in
    never)
one_number id rows (Some n) (Some m) x y =
    let text : x.0 ≡ y.0 = cc (x.1, y.1) in
    ap Some (sym x.3 ∙ (ap (λ t. digits_value 10 (without_leading_plus t)) text ∙ y.3))

-- files by their parts
same_files : (s s' l l' : Text) (n n' m m' : Option ℕ) → s ≡ s' → l ≡ l' → n ≡ n' →
    m ≡ m' → ◌≡◌ {A = Files} (record { source = s; launch = l; lanes = n; turns = m }) (record {
      source = s';
      launch = l';
      lanes = n';
      turns = m';
    })
same_files s s' l l' n n' m m' a b c d = cc

-- rows name one pair of files
pub one_files : (rows : List Row) (a b : Files) → NamesFiles rows a → NamesFiles rows b → a ≡ b
one_files rows a b x y =
    let source : a.source ≡ b.source = cc (x.source, y.source) in
    let launch : a.launch ≡ b.launch = cc (x.launch, y.launch) in
    let lanes : a.lanes ≡ b.lanes = one_number (codes "lanes") rows a.lanes b.lanes x.lanes y.lanes in
    let turns : a.turns ≡ b.turns = one_number (codes "turns") rows a.turns b.turns x.turns y.turns in
    same_files a.source b.source a.launch b.launch a.lanes b.lanes a.turns b.turns source launch lanes turns

same_build : (s s' l l' o o' : Text) (n n' : Option ℕ) → s ≡ s' → l ≡ l' → o ≡ o' → n ≡ n' →
    ◌≡◌ {A = BuildFiles} (record { source = s; launch = l; object = o; lanes = n }) (record {
      source = s';
      launch = l';
      object = o';
      lanes = n';
    })
same_build s s' l l' o o' n n' a b c d = cc

pub one_build : (rows : List Row) (a b : BuildFiles) → NamesBuild rows a → NamesBuild rows b → a ≡ b
one_build rows a b x y =
    let source : a.source ≡ b.source = cc (x.source, y.source) in
    let launch : a.launch ≡ b.launch = cc (x.launch, y.launch) in
    let object : a.object ≡ b.object = cc (x.object, y.object) in
    let lanes : a.lanes ≡ b.lanes = one_number (codes "lanes") rows a.lanes b.lanes x.lanes y.lanes in
    same_build a.source b.source a.launch b.launch a.object b.object a.lanes b.lanes source launch object lanes

same_object : (o o' l l' : Text) (n n' : Option ℕ) → o ≡ o' → l ≡ l' → n ≡ n' →
    ◌≡◌ {A = ObjectFiles} (record { object = o; launch = l; turns = n }) (record {
      object = o';
      launch = l';
      turns = n';
    })
same_object o o' l l' n n' a b c = cc

pub one_object : (rows : List Row) (a b : ObjectFiles) → NamesObject rows a → NamesObject rows b → a ≡ b
one_object rows a b x y =
    let object : a.object ≡ b.object = cc (x.object, y.object) in
    let launch : a.launch ≡ b.launch = cc (x.launch, y.launch) in
    let turns : a.turns ≡ b.turns = one_number (codes "turns") rows a.turns b.turns x.turns y.turns in
    same_object a.object b.object a.launch b.launch a.turns b.turns object launch turns
