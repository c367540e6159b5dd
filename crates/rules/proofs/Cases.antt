-- The worked cases hold, and their setups are valid, by computation.
use mathlib.Core.Path.{◌≡◌, refl}
use mathlib.Core.Bool.{true}
use mathlib.Core.List.{map, ◌++◌}
use lib.Ieee.{mul, div, sub, lt, le, eq, round, of_int, to_unsigned}
use Rattle.fraction.specs.Examples.{every}
use Rattle.fraction.specs.Fraction.{size_product, hit_rate, reserve_quotient, exceeds_share}
use Rattle.settings.specs.Defaults.{defaults, with_clean}
use Rattle.settings.specs.Validation.{first_bad}
use Rattle.rules.specs.Addresses.{elem, strike, some_address, nearest, twice, insert_rising}
use Rattle.rules.specs.Cases.{cases, further, lone, full, missing, exceeding, ran, run, after, reversed, cache_of, is_valid}
use Rattle.rules.specs.Messages.{bytes_of, address_fields, message_of, feed, feed_all, read_message}
use Rattle.rules.specs.Opening.{refusal_of_opening}
use Rattle.rules.specs.Refusals.{first_of, tests, refusal_of}
use Rattle.rules.specs.Reports.{report_of, totals_from}
use Rattle.rules.specs.Requests.{effect, step}
use Rattle.rules.specs.Resizing.{flashed, evict_aged, age_out, resized, end_epoch, count_access}
use Rattle.rules.specs.Room.{clean_bytes, turns, write_dirty, room_in, make_room}
use Rattle.rules.specs.Rows.{get, amend, amend_each, amend_all, remove, place, has_free, some_entry, total, dirty_rising}

-- to unfold this is to unfold all the rules
unfoldable pub computing : Unit {0}
unfolding bytes_of address_fields message_of feed feed_all read_message elem strike some_address nearest twice insert_rising first_of tests refusal_of refusal_of_opening report_of totals_from effect step flashed evict_aged age_out resized end_epoch count_access clean_bytes turns write_dirty room_in make_room get amend amend_each amend_all remove place has_free some_entry total dirty_rising mul div sub lt le eq round of_int to_unsigned size_product hit_rate reserve_quotient exceeds_share first_bad
computing = tt

pub worked : map ran cases ≡ map (λ x. x.gives) cases
unfolding computing cache_of run reversed
worked = refl

pub worked_further : map ran further ≡ map (λ x. x.gives) further
unfolding computing cache_of run after reversed
worked_further = refl

pub worked_lone : map ran lone ≡ map (λ x. x.gives) lone
unfolding computing cache_of run after reversed defaults with_clean
worked_lone = refl

pub worked_full : map ran full ≡ map (λ x. x.gives) full
unfolding computing cache_of run after reversed
worked_full = refl

pub valid : every (λ x. is_valid x.setup) (cases ++ (further ++ (lone ++ full))) ≡ true
unfolding computing every is_valid cache_of after defaults with_clean
valid = refl

-- ---- the clean share

pub worked_missing : map (λ x. (report_of (cache_of x.0)).missing) missing ≡ map (λ x. x.1) missing
unfolding computing cache_of after
worked_missing = refl

pub missing_valid : every (λ x. is_valid x.0) missing ≡ true
unfolding computing every is_valid cache_of after
missing_valid = refl

-- ---- what is stored of full

pub worked_exceeding : map (λ x. (cache_of x.0).exceeded) exceeding ≡ map (λ x. x.1) exceeding
unfolding computing cache_of after
worked_exceeding = refl

pub exceeding_valid : every (λ x. is_valid x.0) exceeding ≡ true
unfolding computing every is_valid cache_of after
exceeding_valid = refl
