use Rattle.ca_machine.proofs.RunsHaveHeadline.{runs_have_headline}
use Rattle.ca_machine.proofs.headline.headline.Goals as goal

pub returns : goal.returns
returns c = runs_have_headline (record {
  conservation = c.conservation.ensures;
  totals = c.totals.ensures;
  tallies = c.tallies.ensures;
  closed_is_empty = c.closed_is_empty.ensures;
  positions = c.positions.ensures;
  one_sound = c.one_sound.ensures;
  nothing_ahead = c.nothing_ahead.ensures;
  places_rise = c.places_rise.ensures;
  mix_sums = c.mix_sums.ensures;
  silence = c.silence.ensures;
  present_is_whole = c.present_is_whole.ensures;
  present_goes_on = c.present_goes_on.ensures;
  booked = c.booked.ensures;
  read_in_order = c.read_in_order.ensures;
  packets_come_from = c.packets_come_from.ensures;
})
