use Rattle.cellarcove_c.proofs.Laws as law
use Rattle.cellarcove_c.proofs.laws_of_exports.laws.Goals as goal

ruleset of_answers = (law.reason_is_only, law.answers_is_only, law.answers_modulo_is_only, law.class_of_both_is_only, law.next_of_several_is_only)

ruleset of_numbers = (
  law.floored_list_is_only,
  law.summed_list_is_only,
  law.fewest_pages_is_only,
  law.padding_is_only,
  law.root_with_rest_is_only,
  law.order_number_is_only,
)

ruleset of_fractions = (law.stands_for_is_only, law.stands_for_number_is_only, law.on_both_is_only, law.power_is_only, law.in_parts_is_only)

ruleset of_texts = (law.in_digits_is_only, law.fract_is_only, law.stands_for_read_is_only, law.stands_for_decimal_is_only, law.read_date_is_only)

ruleset of_dates = (law.months_later_is_only, law.months_between_is_only, law.years_between_is_only)

ruleset of_weekdays = (law.of_iso_number_is_only, law.day_of_iso_number_is_only)

pub returns : goal.returns
returns c = search (of_answers, of_numbers, of_fractions, of_texts, of_dates, of_weekdays)
