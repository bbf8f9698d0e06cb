-- Laws of the times of a schedule.
use Rattle.std.proofs.Common.{◌≡◌, ℕ, ◌+◌, ◌<◌, ◌≤◌, List, [], ◌∷◌, ◌++◌, length, get_or, take, map, All, Option, Some, None, IsSome, refl, sym, ap, ◌∙◌, subst, arith}
use Rattle.std.specs.Prelude.{IfSome}
use Rattle.std.proofs.lemmas.Bool.{false≢true}
use Rattle.std.proofs.lemmas.List.{length_push, length-map, map-append, map_more, get_or-map, take_all}
use Rattle.std.proofs.lemmas.List.Elements.{All-push, All-nil, All-get_or}
use Rattle.std.proofs.lemmas.Option.{same_Some}
use Rattle.rep_fields.specs.Moment.{IsMinuteOfDay, hours_text}
use Rattle.toml.specs.Data.{Data, Members, string, integer, float, boolean, datetime, array, table, as_str}
use Rattle.toml.specs.View.{view, items_of}
use Rattle.toml.specs.declared.value.Value.{Value}
use Rattle.toml_fields.specs.Answering.{Finds}
use Rattle.toml_fields.specs.Table.{HasArray}
use Rattle.tr_plan.specs.Rows.{most_rows}
use Rattle.tr_plan.specs.Schedule.{HasTimes, IsTimesCount, time_text}
use Rattle.tr_plan.proofs.RowLemmas.{items_of-injective}

-- what the look-up of a text says of a value
pub text_found : (found : Data) (text : List ℕ) → Some text ≡ as_str found → found ≡ string text
text_found (string s) text is = ap string (sym (same_Some text s is))
text_found (integer z) text is = absurd (cc)
text_found (float x) text is = absurd (cc)
text_found (boolean b) text is = absurd (cc)
text_found (datetime t) text is = absurd (cc)
text_found (array ds) text is = absurd (cc)
text_found (table ms) text is = absurd (cc)

-- the minutes are those of the values in front
pub record AreTimesOf (values : List Value) (at : ℕ) (minutes : List ℕ) : Type 0 where
  pub size : length minutes ≡ at
  pub each : All IsMinuteOfDay minutes
  pub same : map time_text minutes ≡ map view (take at values)

pub AreTimesOf-none : (values : List Value) → AreTimesOf values 0 []
AreTimesOf-none values = record { size = refl; each = All-nil IsMinuteOfDay; same = refl }

pub AreTimesOf-more : (values : List Value) (at : ℕ) (minutes : List ℕ) (value : Value) (text : List ℕ) (minute : ℕ) → AreTimesOf values at minutes
    → at < length values → value ≡ get_or values at value → Some text ≡ as_str (view value) → IsMinuteOfDay minute → text ≡ hours_text minute
    → AreTimesOf values (at + 1) (minutes ++ minute ∷ [])
AreTimesOf-more values at minutes value text minute are within is found in_day written = record {
  size = omega (arith, length_push minutes minute, are.size);
  each = All-push IsMinuteOfDay minutes minute are.each in_day;
  same =
      map-append time_text minutes (minute ∷ [])
      ∙ ap (λ ds. ds ++ time_text minute ∷ []) are.same
      ∙ ap (λ d. map view (take at values) ++ d ∷ []) (sym (text_found (view value) text found ∙ ap string written) ∙ ap view is)
      ∙ sym (map_more view values at value within);
}

-- the times that stand at the key are those of the array's values
pub times_there : (ms : Members) (key : List ℕ) (values : List Value) (times : List ℕ) → HasArray ms key (items_of (map view values)) → HasTimes ms key times
    → map time_text times ≡ map view values
times_there ms key values times there has =
    let same : Some (array (items_of (map time_text times))) ≡ Some (array (items_of (map view values))) = sym has.there ∙ there in
    let items : items_of (map time_text times) ≡ items_of (map view values) = cc in
    items_of-injective (map time_text times) (map view values) items

pub times_count : (ms : Members) (key : List ℕ) (values : List Value) (times : List ℕ) → HasArray ms key (items_of (map view values)) → HasTimes ms key times
    → IsTimesCount (length values)
times_count ms key values times there has =
    subst IsTimesCount (sym (length-map times time_text) ∙ ap length (times_there ms key values times there has) ∙ length-map values view) has.are.count

-- each of the values is the text of a time
pub time_there : (ms : Members) (key : List ℕ) (values : List Value) (times : List ℕ) (at : ℕ) (value : Value) → HasArray ms key (items_of (map view values))
    → HasTimes ms key times → at < length values → value ≡ get_or values at value
    → (minute : ℕ) × IsMinuteOfDay minute × (view value ≡ string (hours_text minute))
time_there ms key values times at value there has within is =
    let same = times_there ms key values times there has in
    let long : length times ≡ length values = sym (length-map times time_text) ∙ ap length same ∙ length-map values view in (
      get_or times at 0,
      All-get_or IsMinuteOfDay times at 0 (omega arith) has.are.each,
      ap view is ∙ sym (get_or-map view values at value (time_text 0) within)
          ∙ sym (ap (λ ds. get_or ds at (time_text 0)) same) ∙ get_or-map time_text times at 0 (time_text 0) (omega arith),
    )

-- a value that is no text is the text of no time
pub no_text : (found : Data) (minute : ℕ) → None ≡ as_str found → found ≡ string (hours_text minute) → ⊥
no_text found minute none is = let same : None ≡ Some (hours_text minute) = none ∙ ap as_str is in cc

-- and a value that is a text is the text of no other time
pub text_same : (found : Data) (text : List ℕ) (minute : ℕ) → Some text ≡ as_str found → found ≡ string (hours_text minute) → text ≡ hours_text minute
text_same found text minute there is = same_Some text (hours_text minute) (there ∙ ap as_str is)

-- the minutes of all values are the times that the array says
pub times_made : (ms : Members) (key : List ℕ) (values : List Value) (at : ℕ) (minutes : List ℕ) (result : Option (List ℕ))
    → HasArray ms key (items_of (map view values)) → AreTimesOf values at minutes → IsTimesCount (length values) → length values ≤ at
    → (length minutes ≤ most_rows → IsSome result) → IfSome result (λ made. made ≡ minutes) → Finds (HasTimes ms key) result
times_made ms key values at minutes (Some made) there are count all room is =
    let whole : map time_text minutes ≡ map view values = are.same ∙ ap (map view) (take_all at values all) in
    let long : length values ≡ length minutes = sym (length-map values view) ∙ sym (ap length whole) ∙ length-map minutes time_text in
    subst (HasTimes ms key) (sym is) (record {
      are = record { count = subst IsTimesCount long count; each = are.each };
      there = subst (λ (ds : List Data). HasArray ms key (items_of ds)) (sym whole) there;
    })
times_made ms key values at minutes None there are count all room is =
    let whole : map time_text minutes ≡ map view values = are.same ∙ ap (map view) (take_all at values all) in
    let long : length values ≡ length minutes = sym (length-map values view) ∙ sym (ap length whole) ∙ length-map minutes time_text in
    absurd (false≢true (room (omega (arith, long, count.few, count.even))))
