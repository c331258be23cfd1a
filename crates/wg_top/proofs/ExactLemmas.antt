-- Where files are told, they decide how a run ends.
use Rattle.std.proofs.Common.{◌≡◌, ℕ, zero, suc, ◌<◌, Bool, List, [], ◌∷◌, length, get_or, take, true, Option, Some}
use Rattle.std.proofs.Common.{None, option_map, inl, inr, refl, sym, ◌∙◌, ap, ap₂, subst, arith}
use Rattle.std.specs.Prelude.{◌⊎◌, is_some, Contains}
use Rattle.wg_num.specs.declared.types.Place.{Place}
use Rattle.wg_outside.specs.Counts.{Rose}
use Rattle.wg_outside.specs.Files.{FileMap, HasFileStart, LacksFile}
use Rattle.buffer_io.specs.Loads.{AllStartAs, StartsAs, LacksOneFile, fitted}
use Rattle.command_words.specs.Command.{Files}
use Rattle.launch_file.specs.Binding.{loads_of, lengths_of}
use Rattle.launch_file.specs.Refusals.{Reads}
use Rattle.launch_file.specs.Texts.{Text}
use Rattle.launch_file.specs.declared.refusal.Refusal.{Refusal}
use Rattle.launch_file.proofs.Unique.{read_or_refused}
use Rattle.cl_front.specs.declared.condition.Condition.{Condition}
use Rattle.wg_top.specs.declared.RunError.{RunError}
use Rattle.wg_top.specs.declared.RunError.TheVariants.{Failed, Absent, Source, Launch, Range, Parted, Turns, Memory}
use Rattle.wg_top.specs.declared.RunError.TheVariants.{NotObject}
use Rattle.wg_top.specs.declared.Summary.{Summary}
use Rattle.cl_meaning.specs.Typed.{Unit'}
use Rattle.cl_model.specs.Sizes.{Launch as ModelLaunch}
use Rattle.lane_code.specs.declared.end.RunEnd.{RunEnd}
use Rattle.lane_code.specs.declared.end.RunEnd.TheVariants as run
use Rattle.lane_code.specs.Program.{Plain}
use Rattle.wg_top.specs.CompiledLaunches.{programs_in, LaunchesRan, EndsBehind, EndsSo}
use Rattle.wg_top.specs.Units.{bind_refusal}
use Rattle.wg_top.specs.Launches.{launches_in}
use Rattle.wg_top.specs.Causes.{Standing, SourceLoaded, LaunchLoaded, RunRead, RunBound, BuffersLoaded, TextRefused}
use Rattle.wg_top.specs.Causes.{BindRefused, SourceRefused}
use Rattle.wg_top.specs.CompiledCauses.{RunStopped, Finds, Cause, HasRun, IsDone}
use Rattle.wg_top.specs.Lines.{status_of}
use Rattle.wg_top.specs.Outside.{Outside}
use Rattle.wg_top.specs.Ends.{Ends}
use Rattle.wg_top.specs.Outcomes.{models_in}
use Rattle.wg_top.proofs.ChainLemmas.{launches_ran}
use Rattle.wg_top.proofs.CompleteLemmas.{same_text, same_units, no_fault, none_refused, stopped_of, not_failed}
use Rattle.wg_top.proofs.LaunchLemmas.{one_end}
use Rattle.wg_top.proofs.EndLemmas.{status_above}

-- how far a run comes by its files
data Found (files : Option FileMap) (ask : Files) : Type 0 where
  no_source : LacksFile files ask.source → Found files ask
  no_launch : (bytes : List ℕ) → SourceLoaded files ask.source bytes → LacksFile files ask.launch → Found files ask
  bad_launch : (first : Refusal) → TextRefused files ask first → Found files ask
  bad_source : (condition : Condition) (place : Place) → SourceRefused files ask condition place → Found files ask
  bad_bind : (first : Refusal) → BindRefused files ask first → Found files ask
  no_buffer : (text : Text) (s : List Unit') → RunBound files ask text s →
      LacksOneFile files (loads_of text.buffers) → Found files ask
  stopped : (e : RunError) → RunStopped files ask e → Found files ask
  fits : (text : Text) (s : List Unit') → RunBound files ask text s → (before after : List (List ℕ)) →
      BuffersLoaded files text before → LaunchesRan (programs_in text s) (launches_in text) before after →
      Found files ask

-- the status that it leads to
status_at : (files : Option FileMap) (ask : Files) → Found files ask → ℕ
status_at files ask (no_source x) = 9
status_at files ask (no_launch xb xl x) = 9
status_at files ask (bad_launch xn x) = 4
status_at files ask (bad_source xn xq x) = 3
status_at files ask (bad_bind xn x) = 4
status_at files ask (no_buffer xt xs xr x) = 9
status_at files ask (stopped xe x) = status_of xe
status_at files ask (fits xt xs xr xb xa xl x) = 0

-- a name that is absent was not loaded
pub lacks_loaded : (fs : FileMap) (name : List ℕ) (most : ℕ) (bytes : List ℕ) → LacksFile (Some fs) name →
    HasFileStart (Some fs) name most bytes → ⊥
lacks_loaded fs name most bytes lacks loaded = let e : option_map (take most) None ≡ Some bytes =
    subst (λ (o : Option (List ℕ)). option_map (take most) o ≡ Some bytes) lacks loaded in cc

-- what is loaded of one file is the same
pub same_start : (fs : FileMap) (name : List ℕ) (most : ℕ) (bytes others : List ℕ) →
    HasFileStart (Some fs) name most bytes → HasFileStart (Some fs) name most others → bytes ≡ others
same_start fs name most bytes others a b = let e : Some bytes ≡ Some others = sym a ∙ b in cc

pub launch_differs : (fs : FileMap) (ask : Files) (first : Refusal) (bytes : List ℕ) (text : Text) →
    TextRefused (Some fs) ask first → LaunchLoaded (Some fs) ask.launch bytes →
    Reads bytes ask.lanes ask.turns text → ⊥
launch_differs fs ask first bytes text refused loaded reads =
    let same : bytes ≡ refused.launch_bytes =
    same_start fs ask.launch 1048577 bytes refused.launch_bytes loaded refused.launch_loaded in
    read_or_refused refused.launch_bytes ask.lanes ask.turns text first
    (subst (λ (b : List ℕ). Reads b ask.lanes ask.turns text) same reads) refused.refused

pub source_differs : (fs : FileMap) (ask : Files) (condition : Condition) (place : Place) (text : Text)
    (s : List Unit') → SourceRefused (Some fs) ask condition place → RunRead (Some fs) ask text s → ⊥
source_differs fs ask condition place text s refused read =
    let same = same_text refused.launch_bytes read.launch_bytes ask refused.text text
    (same_start fs ask.launch 1048577 refused.launch_bytes read.launch_bytes refused.launch_loaded
    read.launch_loaded) refused.reads read.reads in
    let bytes = same_start fs ask.source 262145 refused.source_bytes read.source_bytes refused.source_loaded
    read.source_loaded in
    no_fault refused.source_bytes read.source_bytes refused.text text s condition place bytes same refused.fault
    read.unit read.compiled

pub two_texts : (fs : FileMap) (ask : Files) (text other : Text) (s t : List Unit') → RunRead (Some fs) ask text s →
    RunRead (Some fs) ask other t → text ≡ other
two_texts fs ask text other s t a b =
    same_text a.launch_bytes b.launch_bytes ask text other (same_start fs ask.launch 1048577 a.launch_bytes
    b.launch_bytes a.launch_loaded b.launch_loaded) a.reads b.reads

two_units : (fs : FileMap) (ask : Files) (text other : Text) (s t : List Unit') → RunRead (Some fs) ask text s →
    RunRead (Some fs) ask other t → s ≡ t
two_units fs ask text other s t a b =
    same_units a.source_bytes b.source_bytes text other s t (same_start fs ask.source 262145 a.source_bytes
    b.source_bytes a.source_loaded b.source_loaded) (two_texts fs ask text other s t a b) a.compiled b.compiled

pub bind_differs : (fs : FileMap) (ask : Files) (first : Refusal) (text : Text) (s : List Unit') →
    BindRefused (Some fs) ask first → RunBound (Some fs) ask text s → ⊥
bind_differs fs ask first text s refused bound =
    let e : Some first ≡ None = sym refused.refused ∙
    (ap₂ bind_refusal (two_texts fs ask refused.text text refused.units s refused.read bound.read)
    (two_units fs ask refused.text text refused.units s refused.read bound.read) ∙ bound.accepted) in
    let never : ⊥ = cc e in never

-- a buffer that was loaded has its file
lacks_first : (fs : FileMap) (size : ℕ) (load : Option (List ℕ)) (bytes name : List ℕ) →
    StartsAs (Some fs) size load bytes → load ≡ Some name → LacksFile (Some fs) name → ⊥
lacks_first fs size load bytes name started is lacks =
    let here : StartsAs (Some fs) size (Some name) bytes =
    subst (λ (l : Option (List ℕ)). StartsAs (Some fs) size l bytes) is started in
    lacks_loaded fs name size here.0 lacks here.1

lacks_at : (fs : FileMap) (sizes : List ℕ) (loads : List (Option (List ℕ))) (before : List (List ℕ)) (name : List ℕ)
    (i : ℕ) → AllStartAs (Some fs) sizes loads before → i < length loads → get_or loads i (Some name) ≡ Some name →
    LacksFile (Some fs) name → ⊥
lacks_at fs [] [] [] name i started lt is lacks = omega arith
lacks_at fs (size ∷ sizes) (load ∷ loads) (bytes ∷ before) name zero started lt is lacks =
    lacks_first fs size load bytes name started.0 is lacks
lacks_at fs (size ∷ sizes) (load ∷ loads) (bytes ∷ before) name (suc i) started lt is lacks =
    lacks_at fs sizes loads before name i started.1 (omega arith) is lacks
lacks_at fs _ _ _ name i started lt is lacks = absurd started

pub lacks_started : (fs : FileMap) (sizes : List ℕ) (loads : List (Option (List ℕ))) (before : List (List ℕ))
    (name : List ℕ) → AllStartAs (Some fs) sizes loads before → Contains loads (Some name) →
    LacksFile (Some fs) name → ⊥
lacks_started fs sizes loads before name started among lacks =
    lacks_at fs sizes loads before name among.0 started among.1 among.2 lacks

buffer_differs : (fs : FileMap) (ask : Files) (text other : Text) (s t : List Unit') (before : List (List ℕ)) →
    RunBound (Some fs) ask text s → LacksOneFile (Some fs) (loads_of text.buffers) → RunBound (Some fs) ask other t →
    BuffersLoaded (Some fs) other before → ⊥
buffer_differs fs ask text other s t before a lacks b started =
    let same = two_texts fs ask text other s t a.read b.read in
    let one : LacksOneFile (Some fs) (loads_of other.buffers) =
    subst (λ (x : Text). LacksOneFile (Some fs) (loads_of x.buffers)) same lacks in
    lacks_started fs (lengths_of other.buffers) (loads_of other.buffers) before one.name started one.is_load one.lacks

-- what is loaded is the same
same_started : (fs : FileMap) (size : ℕ) (load : Option (List ℕ)) (x y : List ℕ) → StartsAs (Some fs) size load x →
    StartsAs (Some fs) size load y → x ≡ y
same_started fs size None x y a b = a ∙ sym b
same_started fs size (Some name) x y a b = a.2 ∙ (ap (fitted size) (same_start fs name size a.0 b.0 a.1 b.1) ∙ sym b.2)

pub same_before : (fs : FileMap) (sizes : List ℕ) (loads : List (Option (List ℕ))) (x y : List (List ℕ)) →
    AllStartAs (Some fs) sizes loads x → AllStartAs (Some fs) sizes loads y → x ≡ y
same_before fs [] [] [] [] a b = refl
same_before fs (size ∷ sizes) (load ∷ loads) (x ∷ xs) (y ∷ ys) a b =
    ap₂ (λ z zs. z ∷ zs) (same_started fs size load x y a.0 b.0) (same_before fs sizes loads xs ys a.1 b.1)
same_before fs [] [] [] (y ∷ ys) a b = absurd b
same_before fs [] [] (x ∷ xs) ys a b = absurd a
same_before fs [] (load ∷ loads) xs ys a b = absurd a
same_before fs (size ∷ sizes) [] xs ys a b = absurd a
same_before fs (size ∷ sizes) (load ∷ loads) [] ys a b = absurd a
same_before fs (size ∷ sizes) (load ∷ loads) (x ∷ xs) [] a b = absurd b

-- the status of an end
abbrev status_for : RunEnd → ℕ
status_for run.Done = 0
status_for (run.Range g i s) = 5
status_for (run.Parted g i s) = 6
status_for run.Turns = 7

-- the end that a refusal says
record SaysEnd (ps : List Plain) (launches : List ModelLaunch) (before : List (List ℕ)) (e : RunError) : Type 0 where
  behind : ℕ
  end : RunEnd
  ends : EndsBehind ps launches before behind end
  other : end ≡ run.Done → ⊥
  status_is : status_of e ≡ status_for end

says_end : (several : Bool) (ps : List Plain) (launches : List ModelLaunch) (before : List (List ℕ)) (e : RunError) →
    EndsSo several ps launches before e → SaysEnd ps launches before e
says_end several ps launches before (Range number s group item place) ends =
    record {
      behind = ends.1.behind;
      end = run.Range group item ends.1.site;
      ends = ends.1.ends;
      other = λ h. (let never : ⊥ = cc h in never);
      status_is = refl;
    }
says_end several ps launches before (Parted number s group item place) ends =
    record {
      behind = ends.1.behind;
      end = run.Parted group item ends.1.site;
      ends = ends.1.ends;
      other = λ h. (let never : ⊥ = cc h in never);
      status_is = refl;
    }
says_end several ps launches before (Turns number s) ends = record {
  behind = ends.1.behind;
  end = run.Turns;
  ends = ends.1.ends;
  other = λ h. (let never : ⊥ = cc h in never);
  status_is = refl;
}
says_end several ps launches before _ ends = absurd ends

pub one_refusal : (several : Bool) (ps : List Plain) (launches : List ModelLaunch) (before : List (List ℕ))
    (e d : RunError) → EndsSo several ps launches before e → EndsSo several ps launches before d →
    status_of e ≡ status_of d
one_refusal several ps launches before e d a b =
    let x = says_end several ps launches before e a in
    let y = says_end several ps launches before d b in
    x.status_is ∙ (ap status_for (one_end ps launches before x.behind y.behind x.end y.end x.ends y.ends x.other
    y.other) ∙ sym y.status_is)

-- a launch that is not done, by another reading of the same files
ends_again : (fs : FileMap) (ask : Files) (e : RunError) (x : RunStopped (Some fs) ask e) (text : Text)
    (s : List Unit') (before : List (List ℕ)) → RunRead (Some fs) ask text s → BuffersLoaded (Some fs) text before →
    EndsSo text.several (programs_in text s) (launches_in text) before e
ends_again fs ask e x text s before read loaded =
    let same = two_texts fs ask x.text text x.units s x.read read in
    let units = two_units fs ask x.text text x.units s x.read read in
    let mine : BuffersLoaded (Some fs) text x.stopped.before =
    subst (λ (t : Text). BuffersLoaded (Some fs) t x.stopped.before) same x.stopped.loaded in
    let one : x.stopped.before ≡ before =
    same_before fs (lengths_of text.buffers) (loads_of text.buffers) x.stopped.before before mine loaded in
    subst (λ (b : List (List ℕ)). EndsSo text.several (programs_in text s) (launches_in text) b e) one
    (subst (λ (us : List Unit'). EndsSo text.several (programs_in text us) (launches_in text) x.stopped.before e) units
    (subst (λ (t : Text). EndsSo t.several (programs_in t x.units) (launches_in t) x.stopped.before e) same
    x.stopped.ends))

stops_differ : (fs : FileMap) (ask : Files) (e : RunError) → RunStopped (Some fs) ask e →
    (text : Text) (s : List Unit') (before after : List (List ℕ)) → RunBound (Some fs) ask text s →
    BuffersLoaded (Some fs) text before → LaunchesRan (programs_in text s) (launches_in text) before after → ⊥
stops_differ fs ask e x text s before after bound loaded ran =
    none_refused text.several (programs_in text s) (launches_in text) before after e ran
    (ends_again fs ask e x text s before bound.read loaded)

stops_agree : (fs : FileMap) (ask : Files) (e d : RunError) → RunStopped (Some fs) ask e →
    RunStopped (Some fs) ask d → status_of e ≡ status_of d
stops_agree fs ask e d x y =
    one_refusal y.text.several (programs_in y.text y.units) (launches_in y.text) y.stopped.before e d
    (ends_again fs ask e x y.text y.units y.stopped.before y.read y.stopped.loaded) y.stopped.ends

-- a launch that is not done has its buffers, and no refusal at binding
bound_of : (files : Option FileMap) (ask : Files) (e : RunError) (x : RunStopped files ask e) →
    RunBound files ask x.text x.units
bound_of files ask e x = record { read = x.read; accepted = x.stopped.accepted }

-- two ways to come as far have one status
agree_on : (fs : FileMap) (ask : Files) (x y : Found (Some fs) ask) →
    status_at (Some fs) ask x ≡ status_at (Some fs) ask y
unfolding status_at
agree_on fs ask (no_source x) (no_source y) = refl
agree_on fs ask (no_source x) (no_launch yb yl y) = refl
agree_on fs ask (no_source x) (bad_launch yn y) = absurd (lacks_loaded fs ask.source 262145 _ x y.source_loaded)
agree_on fs ask (no_source x) (bad_source yn yq y) = absurd (lacks_loaded fs ask.source 262145 _ x y.source_loaded)
agree_on fs ask (no_source x) (bad_bind yn y) = absurd (lacks_loaded fs ask.source 262145 _ x y.read.source_loaded)
agree_on fs ask (no_source x) (no_buffer yt ys yr y) = refl
agree_on fs ask (no_source x) (stopped ye y) = absurd (lacks_loaded fs ask.source 262145 _ x y.read.source_loaded)
agree_on fs ask (no_source x) (fits yt ys yr yb ya yl y) =
    absurd (lacks_loaded fs ask.source 262145 _ x yr.read.source_loaded)
agree_on fs ask (no_launch xb xl x) (no_source y) = refl
agree_on fs ask (no_launch xb xl x) (no_launch yb yl y) = refl
agree_on fs ask (no_launch xb xl x) (bad_launch yn y) = absurd (lacks_loaded fs ask.launch 1048577 _ x y.launch_loaded)
agree_on fs ask (no_launch xb xl x) (bad_source yn yq y) =
    absurd (lacks_loaded fs ask.launch 1048577 _ x y.launch_loaded)
agree_on fs ask (no_launch xb xl x) (bad_bind yn y) =
    absurd (lacks_loaded fs ask.launch 1048577 _ x y.read.launch_loaded)
agree_on fs ask (no_launch xb xl x) (no_buffer yt ys yr y) = refl
agree_on fs ask (no_launch xb xl x) (stopped ye y) =
    absurd (lacks_loaded fs ask.launch 1048577 _ x y.read.launch_loaded)
agree_on fs ask (no_launch xb xl x) (fits yt ys yr yb ya yl y) =
    absurd (lacks_loaded fs ask.launch 1048577 _ x yr.read.launch_loaded)
agree_on fs ask (bad_launch xn x) (no_source y) = absurd (lacks_loaded fs ask.source 262145 _ y x.source_loaded)
agree_on fs ask (bad_launch xn x) (no_launch yb yl y) = absurd (lacks_loaded fs ask.launch 1048577 _ y x.launch_loaded)
agree_on fs ask (bad_launch xn x) (bad_launch yn y) = refl
agree_on fs ask (bad_launch xn x) (bad_source yn yq y) = absurd (launch_differs fs ask _ _ _ x y.launch_loaded y.reads)
agree_on fs ask (bad_launch xn x) (bad_bind yn y) = refl
agree_on fs ask (bad_launch xn x) (no_buffer yt ys yr y) =
    absurd (launch_differs fs ask _ _ _ x yr.read.launch_loaded yr.read.reads)
agree_on fs ask (bad_launch xn x) (stopped ye y) =
    absurd (launch_differs fs ask _ _ _ x y.read.launch_loaded y.read.reads)
agree_on fs ask (bad_launch xn x) (fits yt ys yr yb ya yl y) =
    absurd (launch_differs fs ask _ _ _ x yr.read.launch_loaded yr.read.reads)
agree_on fs ask (bad_source xn xq x) (no_source y) = absurd (lacks_loaded fs ask.source 262145 _ y x.source_loaded)
agree_on fs ask (bad_source xn xq x) (no_launch yb yl y) =
    absurd (lacks_loaded fs ask.launch 1048577 _ y x.launch_loaded)
agree_on fs ask (bad_source xn xq x) (bad_launch yn y) = absurd (launch_differs fs ask _ _ _ y x.launch_loaded x.reads)
agree_on fs ask (bad_source xn xq x) (bad_source yn yq y) = refl
agree_on fs ask (bad_source xn xq x) (bad_bind yn y) = absurd (source_differs fs ask _ _ _ _ x y.read)
agree_on fs ask (bad_source xn xq x) (no_buffer yt ys yr y) = absurd (source_differs fs ask _ _ _ _ x yr.read)
agree_on fs ask (bad_source xn xq x) (stopped ye y) = absurd (source_differs fs ask _ _ _ _ x y.read)
agree_on fs ask (bad_source xn xq x) (fits yt ys yr yb ya yl y) = absurd (source_differs fs ask _ _ _ _ x yr.read)
agree_on fs ask (bad_bind xn x) (no_source y) = absurd (lacks_loaded fs ask.source 262145 _ y x.read.source_loaded)
agree_on fs ask (bad_bind xn x) (no_launch yb yl y) =
    absurd (lacks_loaded fs ask.launch 1048577 _ y x.read.launch_loaded)
agree_on fs ask (bad_bind xn x) (bad_launch yn y) = refl
agree_on fs ask (bad_bind xn x) (bad_source yn yq y) = absurd (source_differs fs ask _ _ _ _ y x.read)
agree_on fs ask (bad_bind xn x) (bad_bind yn y) = refl
agree_on fs ask (bad_bind xn x) (no_buffer yt ys yr y) = absurd (bind_differs fs ask _ _ _ x yr)
agree_on fs ask (bad_bind xn x) (stopped ye y) = absurd (bind_differs fs ask _ _ _ x (bound_of (Some fs) ask ye y))
agree_on fs ask (bad_bind xn x) (fits yt ys yr yb ya yl y) = absurd (bind_differs fs ask _ _ _ x yr)
agree_on fs ask (no_buffer xt xs xr x) (no_source y) = refl
agree_on fs ask (no_buffer xt xs xr x) (no_launch yb yl y) = refl
agree_on fs ask (no_buffer xt xs xr x) (bad_launch yn y) =
    absurd (launch_differs fs ask _ _ _ y xr.read.launch_loaded xr.read.reads)
agree_on fs ask (no_buffer xt xs xr x) (bad_source yn yq y) = absurd (source_differs fs ask _ _ _ _ y xr.read)
agree_on fs ask (no_buffer xt xs xr x) (bad_bind yn y) = absurd (bind_differs fs ask _ _ _ y xr)
agree_on fs ask (no_buffer xt xs xr x) (no_buffer yt ys yr y) = refl
agree_on fs ask (no_buffer xt xs xr x) (stopped ye y) =
    absurd (buffer_differs fs ask _ _ _ _ _ xr x (bound_of (Some fs) ask ye y) y.stopped.loaded)
agree_on fs ask (no_buffer xt xs xr x) (fits yt ys yr yb ya yl y) = absurd (buffer_differs fs ask _ _ _ _ _ xr x yr yl)
agree_on fs ask (stopped xe x) (no_source y) = absurd (lacks_loaded fs ask.source 262145 _ y x.read.source_loaded)
agree_on fs ask (stopped xe x) (no_launch yb yl y) =
    absurd (lacks_loaded fs ask.launch 1048577 _ y x.read.launch_loaded)
agree_on fs ask (stopped xe x) (bad_launch yn y) =
    absurd (launch_differs fs ask _ _ _ y x.read.launch_loaded x.read.reads)
agree_on fs ask (stopped xe x) (bad_source yn yq y) = absurd (source_differs fs ask _ _ _ _ y x.read)
agree_on fs ask (stopped xe x) (bad_bind yn y) = absurd (bind_differs fs ask _ _ _ y (bound_of (Some fs) ask xe x))
agree_on fs ask (stopped xe x) (no_buffer yt ys yr y) =
    absurd (buffer_differs fs ask _ _ _ _ _ yr y (bound_of (Some fs) ask xe x) x.stopped.loaded)
agree_on fs ask (stopped xe x) (stopped ye y) = stops_agree fs ask xe ye x y
agree_on fs ask (stopped xe x) (fits yt ys yr yb ya yl y) = absurd (stops_differ fs ask xe x yt ys yb ya yr yl y)
agree_on fs ask (fits xt xs xr xb xa xl x) (no_source y) =
    absurd (lacks_loaded fs ask.source 262145 _ y xr.read.source_loaded)
agree_on fs ask (fits xt xs xr xb xa xl x) (no_launch yb yl y) =
    absurd (lacks_loaded fs ask.launch 1048577 _ y xr.read.launch_loaded)
agree_on fs ask (fits xt xs xr xb xa xl x) (bad_launch yn y) =
    absurd (launch_differs fs ask _ _ _ y xr.read.launch_loaded xr.read.reads)
agree_on fs ask (fits xt xs xr xb xa xl x) (bad_source yn yq y) = absurd (source_differs fs ask _ _ _ _ y xr.read)
agree_on fs ask (fits xt xs xr xb xa xl x) (bad_bind yn y) = absurd (bind_differs fs ask _ _ _ y xr)
agree_on fs ask (fits xt xs xr xb xa xl x) (no_buffer yt ys yr y) = absurd (buffer_differs fs ask _ _ _ _ _ yr y xr xl)
agree_on fs ask (fits xt xs xr xb xa xl x) (stopped ye y) = absurd (stops_differ fs ask ye y xt xs xb xa xr xl x)
agree_on fs ask (fits xt xs xr xb xa xl x) (fits yt ys yr yb ya yl y) = refl

-- what is found is how far a run comes
found : (files : Option FileMap) (ask : Files) (e : RunError) → Finds files ask e → (f : Found files ask) ×
    (status_at files ask f ≡ status_of e)
unfolding status_at
found files ask Failed finds = absurd finds
found files ask Absent finds = elim finds [
  | inl texts ↦ elim texts [
    | inl first ↦ (no_source first, refl)
    | inr second ↦ (no_launch second.0 second.1 second.2, refl)
  ]
  | inr third ↦ (no_buffer third.0 third.1 third.2 third.3, refl)
]
found files ask (Source condition place) finds = (bad_source condition place finds, refl)
found files ask (Launch first) finds = elim finds [
  | inl unread ↦ (bad_launch first unread, refl)
  | inr unbound ↦ (bad_bind first unbound, refl)
]
found files ask (Range launch several group item place) finds =
    (stopped (Range launch several group item place) finds, refl)
found files ask (Parted launch several group item place) finds =
    (stopped (Parted launch several group item place) finds, refl)
found files ask (Turns launch several) finds = (stopped (Turns launch several) finds, refl)
found files ask Memory finds = absurd finds
found files ask NotObject finds = absurd finds

-- launches that ran come to their end
found_ran : (files : Option FileMap) (ask : Files) (text : Text) (s : List Unit') (after : List (List ℕ)) →
    RunRead files ask text s → bind_refusal text s ≡ None → HasRun files text s after → (f : Found files ask) ×
    (status_at files ask f ≡ 0)
unfolding status_at
found_ran files ask text s after read accepted r = (
  fits text s (record { read = read; accepted = accepted }) r.before after r.loaded (launches_ran (programs_in text s)
      (models_in s) (launches_in text) r.before after r.ran),
  refl,
)

-- two findings have one status
one_status : (fs : FileMap) (ask : Files) (e d : RunError) → Finds (Some fs) ask e → Finds (Some fs) ask d →
    status_of e ≡ status_of d
one_status fs ask e d a b =
    let x = found (Some fs) ask e a in
    let y = found (Some fs) ask d b in
    sym x.1 ∙ (agree_on fs ask x.0 y.0 ∙ y.1)

-- a run that is done is not refused
pub no_status_ran : (fs : FileMap) (ask : Files) (text : Text) (s : List Unit') (after : List (List ℕ)) (e : RunError) →
    RunRead (Some fs) ask text s → bind_refusal text s ≡ None → HasRun (Some fs) text s after →
    Finds (Some fs) ask e → ⊥
no_status_ran fs ask text s after e read accepted ran finds =
    let x = found_ran (Some fs) ask text s after read accepted ran in
    let y = found (Some fs) ask e finds in
    let zero : 0 ≡ status_of e = sym x.1 ∙ (agree_on fs ask x.0 y.0 ∙ y.1) in
    (status_above e (status_of e) refl).0 (sym zero)

pub no_status : (fs : FileMap) (new : Option FileMap) (ask : Files) (summary : Summary) (e : RunError) →
    IsDone (Some fs) new ask summary → Finds (Some fs) ask e → ⊥
no_status fs new ask summary e done finds =
    no_status_ran fs ask done.text done.units done.run.after e done.read done.run.accepted done.run.run finds

-- a refusal has the status of what is found, or is want of memory
pub refusal : (fs : FileMap) (old new : Standing) (ask : Files) (e d : RunError) (n : ℕ) → old.files ≡ Some fs →
    Finds (Some fs) ask e → (d ≡ Failed → ⊥) → n ≡ status_of d → Cause old new ask d → (n ≡ status_of e) ⊎ (n ≡ 8)
refusal fs old new ask e Failed n told finds other is cause = absurd (other refl)
refusal fs old new ask e Absent n told finds other is cause =
    inl (is ∙ one_status fs ask Absent e (subst (λ (f : Option FileMap). Finds f ask Absent) told cause.1) finds)
refusal fs old new ask e (Source condition place) n told finds other is cause =
    inl (is ∙ one_status fs ask (Source condition place) e
    (subst (λ (f : Option FileMap). Finds f ask (Source condition place)) told cause.refused) finds)
refusal fs old new ask e (Launch first) n told finds other is cause =
    inl (is ∙ one_status fs ask (Launch first) e (subst (λ (f : Option FileMap). Finds f ask (Launch first)) told
    cause) finds)
refusal fs old new ask e (Range launch several group item place) n told finds other is cause =
    inl (is ∙ one_status fs ask (Range launch several group item place) e
    (subst (λ (f : Option FileMap). Finds f ask (Range launch several group item place)) told
    (stopped_of old.files ask (Range launch several group item place) cause)) finds)
refusal fs old new ask e (Parted launch several group item place) n told finds other is cause =
    inl (is ∙ one_status fs ask (Parted launch several group item place) e
    (subst (λ (f : Option FileMap). Finds f ask (Parted launch several group item place)) told
    (stopped_of old.files ask (Parted launch several group item place) cause)) finds)
refusal fs old new ask e (Turns launch several) n told finds other is cause =
    inl (is ∙ one_status fs ask (Turns launch several) e
    (subst (λ (f : Option FileMap). Finds f ask (Turns launch several)) told
    (stopped_of old.files ask (Turns launch several) cause)) finds)
refusal fs old new ask e Memory n told finds other is cause = inr is
refusal fs old new ask e NotObject n told finds other is cause = absurd cause

told_exact : (fs : FileMap) (old new : Outside) (ask : Files) (e : RunError) (n : ℕ) → old.store.files ≡ Some fs →
    Ends old new ask n → Finds (Some fs) ask e → (Rose old.store.faults new.store.faults → ⊥) → (n ≡ status_of e) ⊎
    (n ≡ 8)
told_exact fs old new ask e n told ends finds quiet = elim ends [
  | inl done ↦ absurd (no_status fs new.store.files ask done.summary e
      (subst (λ (f : Option FileMap). IsDone f new.store.files ask done.summary) told done.done) finds)
  | inr more ↦ elim more [
    | inl unsaid ↦ absurd (no_status fs new.store.files ask unsaid.summary e
        (subst (λ (f : Option FileMap). IsDone f new.store.files ask unsaid.summary) told unsaid.done) finds)
    | inr refused ↦ refusal fs old.store new.store ask e refused.error n told finds
        (not_failed old.store new.store ask refused.error quiet refused.cause) refused.status_is refused.cause
  ]
]

pub ends_exact : (old new : Outside) (files : Option FileMap) (ask : Files) (e : RunError) (n : ℕ) →
    old.store.files ≡ files → is_some files ≡ true → Ends old new ask n → Finds files ask e →
    (Rose old.store.faults new.store.faults → ⊥) → (n ≡ status_of e) ⊎ (n ≡ 8)
ends_exact old new None ask e n is told ends finds quiet = absurd (let never : ⊥ = cc in never)
ends_exact old new (Some fs) ask e n is told ends finds quiet = told_exact fs old new ask e n is ends finds quiet
