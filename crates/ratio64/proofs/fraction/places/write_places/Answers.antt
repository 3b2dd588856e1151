use Rattle.ratio64.proofs.ManyPlaces.{◌≡◌, ◌+◌, ◌*◌, ◌/◌, ◌%◌, ap, arith, has_written_styled_append, has_written_styled_nil, has_written_styled_of_eq, last_after, last_small, next_digit_small, no_digits, place_after, refl, rest_after, sym}
use Rattle.ratio64.proofs.fraction.places.write_places.Goals as goal

pub loop-init : goal.loop-init
loop-init g c = (
  ap (λ n. n % c.args.den) (omega arith),
  λ flush. has_written_styled_of_eq _ _ _ _ _ (sym (no_digits _)) (has_written_styled_nil _ _ flush),
)

pub loop-preserved : goal.loop-preserved
loop-preserved g c =
    let is = c.loop.invariant.0 in (
      rest_after c.args.num c.loop.counter c.args.den c.requires.den.0 is,
      λ flush.
          let so_far = c.loop.invariant.1 flush in
          let small = next_digit_small c.args.num c.loop.counter c.args.den c.requires.den.0 is in
          let digit : c.from.result ≡ 48 + c.loop.rest * 10 / c.args.den = omega (arith, c.from.ensures, small) in
          let place = rw digit at (c.in_ok-write_char.ensures.styled so_far.flush refl) in
          has_written_styled_of_eq _ _ _ _ _ (place_after c.args.num c.loop.counter c.args.den c.requires.den.0 is)
          (has_written_styled_append _ _ _ _ _ _ so_far place),
    )

pub write_last_places-requires : goal.write_last_places-requires
write_last_places-requires g c =
    let rest = c.loop.invariant.0 in
    let all : c.loop.counter + 19 ≡ c.args.places = omega arith in
    let last = c.div_round_even.ensures.nearest in
    last_small c.args.num c.loop.counter c.args.den c.requires.den.0 rest c.requires.den.1 all last

pub returns : goal.returns
returns g c = λ flush ok.
    let so_far = c.loop.invariant.1 flush in
    let last = c.write_last_places.ensures so_far.flush ok in
    let rest = c.loop.invariant.0 in
    let all : c.loop.counter + 19 ≡ c.args.places = omega arith in
    let rounded = c.div_round_even.ensures.nearest in
    let places = last_after c.args.num c.loop.counter c.args.den c.requires.den.0 rest c.requires.den.1 all rounded in
    has_written_styled_of_eq _ _ _ _ _ places (has_written_styled_append _ _ _ _ _ _ so_far last)
