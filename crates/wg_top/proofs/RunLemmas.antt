-- The launches of a launch file over its buffers.
use Rattle.std.proofs.Common.{◌≡◌, ℕ, zero, suc, ◌-◌, ◌^◌, ◌<◌, ◌≤◌, true, false, List, [], ◌∷◌, length, map}
use Rattle.std.proofs.Common.{take, replicate, get_or, Option, Some, None, refl, sym, ◌∙◌, ap, ap₂, subst, arith}
use Rattle.std.specs.Prelude.{All, IfSome, IsUtf8}
use Rattle.std.specs.List.{list_any}
use Rattle.std.proofs.lemmas.Bool.{or_parts}
use Rattle.std.proofs.lemmas.List.{length-append, length-take, length-replicate, length-map, get_or-map}
use Rattle.std.proofs.lemmas.List.Elements.{All-map, All-weaker}
use Rattle.wg_outside.specs.Files.{FileMap}
use Rattle.buffer_io.specs.Loads.{StartsAs, AllStartAs, fitted}
use Rattle.buffer_io.specs.Saves.{AreApart, KeepsAllBut, StopsAt}
use Rattle.cl_prep.proofs.Tables.{bytes_same}
use Rattle.cl_model.specs.declared.launch.Launch.{Launch as Bindings}
use Rattle.launch_file.specs.declared.text.BufferText.{BufferText}
use Rattle.cl_model.specs.Sizes.{Launch}
use Rattle.cl_model.specs.Fitting.{FitBuffers}
use Rattle.group_run.specs.declared.launcher.Launcher.{Launcher}
use Rattle.cl_model.specs.View.{launch_of}
use Rattle.launch_file.specs.Binding.{lengths_of, loads_of, saves_of, count_of}
use Rattle.launch_file.specs.Texts.{Text, Part}
use Rattle.cl_prep.specs.declared.prep.Define.{Define}
use Rattle.cl_check_sound.specs.Law.{DefinesFit}
use Rattle.cl_check_sound.specs.Erased.{program_of}
use Rattle.cl_model.specs.Valid.{IsValid}
use Rattle.cl_front.specs.Typed.{HasTypedUnit}
use Rattle.cl_front.proofs.ValidLemmas.{compiled_valid}
use Rattle.cl_check_sound.proofs.ErasedPrograms.{program_same}
use Rattle.launch_file.specs.Refusals.{saved_again, saved_twice, is_this}
use Rattle.launch_file.specs.Values.{HasTexts, HasNumber}
use Rattle.lane_code.specs.Program.{Plain}
use Rattle.wg_top.specs.declared.RunError.{RunError}
use Rattle.wg_top.specs.declared.RunError.TheVariants.{Range, Parted, Turns}
use Rattle.wg_compile.specs.declared.Compiled.{Compiled}
use Rattle.cl_meaning.specs.Typed.{Unit'}
use Rattle.cl_meaning.specs.View.{unit_of}
use Rattle.wg_top.specs.CompiledLaunches.{programs_in, LaunchesRan, EndsSo}
use Rattle.wg_top.specs.Units.{HaveTypedUnits, bind_refusal}
use Rattle.wg_top.specs.Causes.{Standing, BuffersLoaded}
use Rattle.wg_top.specs.CompiledCauses.{StopsIn, HasRun, SaveStopped}
use Rattle.wg_top.specs.CompiledOutcomes.{AreMade, HaveGroupPrograms, RanInOutcomes, StopsAsOutcome}
use Rattle.wg_top.specs.Outcomes.{models_in}
use Rattle.wg_top.specs.Stages.{BackCause}
use Rattle.wg_top.proofs.MeaningLemmas.{AreLike, ran_like, so_like}
use Rattle.wg_top.specs.Launches.{IsReady, HasLimits, launches_in}

-- the first launch is ready
pub ready_first : (buffers : List BufferText) (launches : List Bindings) (first : Bindings) →
    All (λ l. IsReady buffers l) launches → 1 ≤ length launches → first ≡ get_or launches 0 first →
    IsReady buffers first
ready_first buffers launches first all some is =
    subst (λ (l : Bindings). IsReady buffers l) (sym is) (all 0 first (omega arith))

-- the names of files are texts
pub load_texts : (buffers : List BufferText) → All (λ b. HasTexts b) buffers →
    All (λ load. IfSome load IsUtf8) (loads_of buffers)
load_texts buffers all = All-map (λ load. IfSome load IsUtf8) (λ b. b.load) buffers
    (All-weaker (λ b. HasTexts b) (λ b. IfSome b.load IsUtf8) (λ b has. has.0) buffers all)

pub save_texts : (buffers : List BufferText) → All (λ b. HasTexts b) buffers →
    All (λ save. IfSome save IsUtf8) (saves_of buffers)
save_texts buffers all = All-map (λ save. IfSome save IsUtf8) (λ b. b.save) buffers
    (All-weaker (λ b. HasTexts b) (λ b. IfSome b.save IsUtf8) (λ b has. has.1) buffers all)

-- a buffer has its length
length-fitted : (size : ℕ) (bytes : List ℕ) → length (fitted size bytes) ≡ size
length-fitted size bytes = length-append (take size bytes) (replicate (size - length bytes) 0) ∙
    omega (arith, length-take size bytes, length-replicate {A = ℕ} (size - length bytes) 0)

length-started : (files : Option FileMap) (size : ℕ) (load : Option (List ℕ)) (bytes : List ℕ) →
    StartsAs files size load bytes → length bytes ≡ size
length-started files size None bytes h = ap length h ∙ length-replicate {A = ℕ} size 0
length-started files size (Some name) bytes h = ap length h.2 ∙ length-fitted size h.0

pub started_lengths : {A : Type 0} (f : A → List ℕ) (files : Option FileMap) (sizes : List ℕ)
    (loads : List (Option (List ℕ))) (vs : List A) → AllStartAs files sizes loads (map f vs) →
    map (λ v. length (f v)) vs ≡ sizes
started_lengths f files [] [] [] h = refl
started_lengths f files (size ∷ sizes) (load ∷ loads) (v ∷ vs) h =
    ap₂ (λ x xs. x ∷ xs) (length-started files size load (f v) h.0) (started_lengths f files sizes loads vs h.1)
started_lengths f files [] [] (v ∷ vs) h = absurd h
started_lengths f files [] (load ∷ loads) vs h = absurd h
started_lengths f files (size ∷ sizes) [] vs h = absurd h
started_lengths f files (size ∷ sizes) (load ∷ loads) [] h = absurd h

-- no later buffer is saved by the name
not_saved : (name : List ℕ) (buffers : List BufferText) (j : ℕ) →
    list_any (λ b. is_this name b.save) buffers ≡ false → j < length (saves_of buffers) →
    get_or (saves_of buffers) j None ≡ Some name → ⊥
not_saved name [] j none lt is = omega arith
not_saved name (b ∷ bs) zero none lt is =
    let here : is_this name b.save ≡ true = ap (is_this name) is ∙ bytes_same name name refl in
    let there : is_this name b.save ≡ false =
    (or_parts (is_this name b.save) (list_any (λ x. is_this name x.save) bs) none).0 in
    let never : ⊥ = cc (here, there) in never
not_saved name (b ∷ bs) (suc j) none lt is =
    not_saved name bs j (or_parts (is_this name b.save) (list_any (λ x. is_this name x.save) bs) none).1 (omega arith)
    is

-- the first buffer's name is none of the later ones
first_apart : (b : BufferText) (bs : List BufferText) (name : List ℕ) (j : ℕ) → saved_again b.save bs ≡ false →
    b.save ≡ Some name → j < length (saves_of bs) → get_or (saves_of bs) j None ≡ Some name → ⊥
first_apart b bs name j none first lt is = not_saved name bs j (sym (ap (λ o. saved_again o bs) first) ∙ none) lt is

-- the names are apart
pub apart : (buffers : List BufferText) → saved_twice buffers ≡ false → AreApart (saves_of buffers)
apart [] none i j name li lj ei ej = absurd (omega arith)
apart (b ∷ bs) none zero zero name li lj ei ej = refl
apart (b ∷ bs) none zero (suc j) name li lj ei ej =
    absurd (first_apart b bs name j (or_parts (saved_again b.save bs) (saved_twice bs) none).0 ei (omega arith) ej)
apart (b ∷ bs) none (suc i) zero name li lj ei ej =
    absurd (first_apart b bs name i (or_parts (saved_again b.save bs) (saved_twice bs) none).0 ej (omega arith) ei)
apart (b ∷ bs) none (suc i) (suc j) name li lj ei ej =
    ap suc (apart bs (or_parts (saved_again b.save bs) (saved_twice bs) none).1 i j name (omega arith) (omega arith)
    ei ej)

-- each launch that is ready has its limits
pub have_limits : (buffers : List BufferText) (launches : List Bindings) → All (λ l. IsReady buffers l) launches →
    All (λ l. HasLimits (launch_of l)) launches
have_limits buffers launches all =
    All-weaker (λ l. IsReady buffers l) (λ l. HasLimits (launch_of l)) (λ l ready. ready.limits) launches all

-- buffers of the first launch's lengths have those of each
pub sizes_of_each : (buffers : List BufferText) (launches : List Bindings) (first : Bindings) (sizes : List ℕ) →
    All (λ l. IsReady buffers l) launches → IsReady buffers first → sizes ≡ first.lengths.items →
    All (λ l. sizes ≡ l.lengths.items) launches
sizes_of_each buffers launches first sizes all ready same =
    All-weaker (λ l. IsReady buffers l) (λ l. sizes ≡ l.lengths.items) (λ l other. same ∙
    (ready.lengths ∙ sym other.lengths)) launches all

-- as many buffers as names
pub as_many : {A : Type 0} (f : A → List ℕ) (new old : List A) (buffers : List BufferText) (first : Bindings) →
    IsReady buffers first → map (λ v. length (f v)) new ≡ map (λ v. length (f v)) old →
    map (λ v. length (f v)) old ≡ first.lengths.items → length new ≡ length first.saves.items
as_many f new old buffers first ready kept sizes =
    sym (length-map new (λ v. length (f v))) ∙
    (ap length kept ∙ (ap length sizes ∙
    (ap length ready.lengths ∙ (length-map buffers (λ b. count_of b.bytes) ∙
    (sym (length-map buffers (λ b. b.save)) ∙ sym (ap length ready.saves))))))

-- the buffers of the first launch are those of the file
pub loaded_of : (files : Option FileMap) (text : Text) (first : Bindings) (before : List (List ℕ)) →
    IsReady text.buffers first → AllStartAs files first.lengths.items first.loads.items before →
    BuffersLoaded files text before
loaded_of files text first before ready loaded =
    subst (λ (ls : List (Option (List ℕ))). AllStartAs files (lengths_of text.buffers) ls before) ready.loads
    (subst (λ (ns : List ℕ). AllStartAs files ns first.loads.items before) ready.lengths loaded)

-- a launch that is not done, which is an outcome of it
stops_in : (files : Option FileMap) (text : Text) (units : List Unit') (before : List (List ℕ))
    (programs : List Plain) (launches : List Launch) (e : RunError) → bind_refusal text units ≡ None →
    BuffersLoaded files text before → AreLike (programs_in text units) programs → launches ≡ launches_in text
    → EndsSo text.several programs launches before e → AreMade units → HaveGroupPrograms text.lanes text.list units →
    (EndsSo text.several (programs_in text units) (launches_in text) before e →
    StopsAsOutcome (programs_in text units) (models_in units) (launches_in text) before e) → StopsIn files text units e
stops_in files text units before programs launches e accepted loaded same are ends made compiled outcome =
    let mine : EndsSo text.several (programs_in text units) (launches_in text) before e =
    so_like text.several (programs_in text units) programs (launches_in text) before e same
    (subst (λ (ls : List Launch). EndsSo text.several programs ls before e) are ends) in
    record {
      stopped = record { accepted = accepted; before = before; loaded = loaded; ends = mine };
      made = made;
      compiled = compiled;
      outcome = outcome mine;
    }

pub is_stopped : (old new : Standing) (text : Text) (units : List Unit') (before : List (List ℕ))
    (programs : List Plain) (launches : List Launch) (e : RunError) → bind_refusal text units ≡ None →
    BuffersLoaded old.files text before → AreLike (programs_in text units) programs → launches ≡ launches_in text
    → EndsSo text.several programs launches before e → AreMade units → HaveGroupPrograms text.lanes text.list units →
    ((x : RunError) → EndsSo text.several (programs_in text units) (launches_in text) before x →
    StopsAsOutcome (programs_in text units) (models_in units) (launches_in text) before x) →
    BackCause old new text units e
is_stopped old new text units before programs launches (Range number several group item place) accepted loaded same
    are ends made compiled outcome =
    let e = Range number several group item place in
    stops_in old.files text units before programs launches e accepted loaded same are ends made compiled (outcome e)
is_stopped old new text units before programs launches (Parted number several group item place) accepted loaded same
    are ends made compiled outcome =
    let e = Parted number several group item place in
    stops_in old.files text units before programs launches e accepted loaded same are ends made compiled (outcome e)
is_stopped old new text units before programs launches (Turns number several) accepted loaded same are ends made
    compiled outcome =
    let e = Turns number several in
    stops_in old.files text units before programs launches e accepted loaded same are ends made compiled (outcome e)
is_stopped old new text units before programs launches _ accepted loaded same are ends made compiled outcome =
    absurd ends

-- the launches ran
pub has_run : (files : Option FileMap) (text : Text) (units : List Unit') (before after : List (List ℕ))
    (programs : List Plain) (launches : List Launch) → BuffersLoaded files text before →
    AreLike (programs_in text units) programs → launches ≡ launches_in text → LaunchesRan programs launches before after
    → AreMade units → HaveGroupPrograms text.lanes text.list units →
    (LaunchesRan (programs_in text units) (launches_in text) before after →
    RanInOutcomes (programs_in text units) (models_in units) (launches_in text) before after) →
    HasRun files text units after
has_run files text units before after programs launches loaded same are ran made compiled outcome =
    let mine : LaunchesRan (programs_in text units) (launches_in text) before after =
    ran_like (programs_in text units) programs (launches_in text) before after same
    (subst (λ (ls : List Launch). LaunchesRan programs ls before after) are ran) in
    record { before = before; loaded = loaded; ran = outcome mine; made = made; compiled = compiled }

-- a save failed
pub save_stopped : (old mid new : Option FileMap) (text : Text) (s : List Unit') (saves : List (Option (List ℕ)))
    (after : List (List ℕ)) → bind_refusal text s ≡ None → mid ≡ old → saves ≡ saves_of text.buffers →
    HasRun old text s after → StopsAt mid new saves after → KeepsAllBut mid new saves → SaveStopped old new text s
save_stopped old mid new text s saves after accepted stays same run stops others = record {
  accepted = accepted;
  after = after;
  run = run;
  stops = subst (λ (f : Option FileMap). StopsAt f new (saves_of text.buffers) after) stays
      (subst (λ (ls : List (Option (List ℕ))). StopsAt mid new ls after) same stops);
  others = subst (λ (f : Option FileMap). KeepsAllBut f new (saves_of text.buffers)) stays
      (subst (λ (ls : List (Option (List ℕ))). KeepsAllBut mid new ls) same others);
}

-- ---- the launches that were made ready

-- seen twice
pub map_twice : {X Y Z : Type 0} (f : Y → Z) (g : X → Y) (xs : List X) → map (λ x. f (g x)) xs ≡ map f (map g xs)
map_twice f g [] = refl
map_twice f g (x ∷ xs) = ap (λ ys. f (g x) ∷ ys) (map_twice f g xs)

-- each is over these buffers
ready_each : (buffers : List BufferText) (launchers : List Launcher) (launches : List Bindings) →
    map (λ q. q.launch) launchers ≡ launches → All (IsReady buffers) launches → (k : ℕ) (d : Launcher) →
    k < length launchers → IsReady buffers (get_or launchers k d).launch
ready_each buffers launchers launches same all k d lt =
    let launch : Launcher → Bindings = λ q. q.launch in
    subst (λ (l : Bindings). IsReady buffers l) (get_or-map launch launchers k d d.launch lt)
    ((subst (λ (ls : List Bindings). All (IsReady buffers) ls) (sym same) all) k d.launch (omega (
      arith,
      length-map launchers launch,
    )))

pub ready_launcher : (buffers : List BufferText) (launchers : List Launcher) (launches : List Bindings)
    (x : Launcher) → map (λ q. q.launch) launchers ≡ launches → All (IsReady buffers) launches → 1 ≤ length launches →
    x ≡ get_or launchers 0 x → IsReady buffers x.launch
ready_launcher buffers launchers launches x same all some is =
    let launch : Launcher → Bindings = λ q. q.launch in
    let many : length launchers ≡ length launches = sym (length-map launchers launch) ∙ ap length same in
    subst (λ (q : Launcher). IsReady buffers q.launch) (sym is) (ready_each buffers launchers launches same all 0 x
    (omega arith))

pub buffers_fit : (buffers : List BufferText) (launchers : List Launcher) (launches : List Bindings)
    (bytes : List (List ℕ)) → map (λ q. q.launch) launchers ≡ launches → All (IsReady buffers) launches →
    map (λ (b : List ℕ). length b) bytes ≡ lengths_of buffers →
    All (λ q. FitBuffers (launch_of q.launch) bytes) launchers
buffers_fit buffers launchers launches bytes same all sizes k d lt =
    sizes ∙ sym (ready_each buffers launchers launches same all k d lt).lengths

-- ---- the typed units of a call are valid

pub numbers_fit : (defines : List Define) → All HasNumber defines → DefinesFit defines
numbers_fit [] all = tt
numbers_fit (d ∷ defines) all =
    (below_power d.value (all 0 d (omega arith)), numbers_fit defines (λ k e lt. all (suc k) e (omega arith)))
  where
    below_power : (n : ℕ) → n ≤ 9223372036854775807 → n < 2 ^ 63
    below_power n h = omega (arith, h)

pub unit_valid : (bytes : List ℕ) (defines : List Define) (kernel : List ℕ) (c : Compiled) → DefinesFit defines →
    HasTypedUnit bytes defines kernel (unit_of c.program) → IsValid (program_of (unit_of c.program))
unit_valid bytes defines kernel c fit is =
    subst IsValid (sym (program_same c.program)) (compiled_valid bytes defines kernel c.program fit is)

units_valid : (bytes : List ℕ) (defines : List Define) (parts : List Part) (cs : List Compiled) → DefinesFit defines →
    HaveTypedUnits bytes defines parts (map (λ c. unit_of c.program) cs) →
    All (λ c. IsValid (program_of (unit_of c.program))) cs
units_valid bytes defines parts [] fit are k d lt = absurd (omega arith)
units_valid bytes defines (part ∷ parts) (c ∷ cs) fit are zero d lt = unit_valid bytes defines part.kernel c fit are.0
units_valid bytes defines (part ∷ parts) (c ∷ cs) fit are (suc k) d lt =
    units_valid bytes defines parts cs fit are.1 k d (omega arith)
units_valid bytes defines [] (c ∷ cs) fit are k d lt = absurd are

pub kernels_valid : (bytes : List ℕ) (defines : List Define) (parts : List Part) (cs : List Compiled) →
    All HasNumber defines → HaveTypedUnits bytes defines parts (map (λ c. unit_of c.program) cs) →
    All (λ c. IsValid (program_of (unit_of c.program))) cs
kernels_valid bytes defines parts cs numbers are = units_valid bytes defines parts cs (numbers_fit defines numbers) are
