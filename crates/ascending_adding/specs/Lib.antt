-- What placing a registration that is added under the ascending profile asks at each step, and what it has done in the end.
pub mod Adding
pub mod Tops
